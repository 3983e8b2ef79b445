use Rattle.std.proofs.Common.{◌≡◌, Some, None, true, sym, ◌∙◌}
use Rattle.campaign.specs.declared.field.CampField.TheVariants.{Deals, DealsItem}
use Rattle.campaign.specs.Faults.{is_list}
use Rattle.campaign.proofs.check.deals_fault.Goals as goal
use Rattle.campaign.proofs.Firsts.{texts_first}

pub returns-in_err-place : goal.returns-in_err-place
returns-in_err-place c =
    let few : is_list c.args.deals.now ≡ true = sym c.is_few.ensures ∙ c.if-not-is_few.false in
    rw c.from_residual.ensures (texts_first Deals DealsItem c.args.deals.now None few c.in_err-place.ensures)

pub returns : goal.returns
returns c =
    let few : is_list c.args.deals.now ≡ true = sym c.is_few.ensures ∙ c.if-not-is_few.false in
    texts_first Deals DealsItem c.args.deals.now (Some c.in_ok-place.place) few c.in_ok-place.ensures
