use Rattle.std.proofs.Common.{◌≡◌, Some, None, true, sym, ◌∙◌}
use Rattle.campaign.specs.Faults.{is_list}
use Rattle.campaign.proofs.check.attr_fault.Goals as goal
use Rattle.campaign.proofs.Firsts.{attr_first}

pub returns-in_err-place : goal.returns-in_err-place
returns-in_err-place c =
    let few : is_list c.args.attr.now ≡ true = sym c.is_few.ensures ∙ c.if-not-is_few.false in
    rw c.from_residual.ensures record {
      value = attr_first c.args.attr.now None few c.in_err-place.ensures.place;
      range = c.in_err-place.ensures.range;
    }

pub returns-clause-value : goal.returns-clause-value
returns-clause-value c =
    let few : is_list c.args.attr.now ≡ true = sym c.is_few.ensures ∙ c.if-not-is_few.false in
    attr_first c.args.attr.now (Some c.in_ok-place.place) few c.in_ok-place.ensures.place
