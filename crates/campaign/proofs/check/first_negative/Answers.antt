use Rattle.std.proofs.Common.{get_or, sym, arith, rules, below_more, pos, FitsSigned}
use Rattle.std.specs.Int.{w32}
use Rattle.std.proofs.lemmas.Int.{to_z-of_z}
use Rattle.std.proofs.lemmas.List.Elements.{All-from_get_or}
use Rattle.std.specs.Int.RustNames.{int_le}
use Rattle.std.proofs.Common.{not}
use Rattle.campaign.proofs.check.first_negative.Goals as goal
use Rattle.campaign.proofs.Firsts.{is_negative, is_not_negative, position_found, position_none}

pub loop-place-preserved : goal.loop-place-preserved
loop-place-preserved c =
    let z = get_or c.args.ints.now c.loop-place.place (pos 0) in
    let fits : FitsSigned w32 z = search rules in
    record {
      right = below_more _ _ c.loop-place.invariant.right (is_not_negative z (rw (to_z-of_z w32 z fits) at c.if-n-lt0.false));
      fits = below_more _ _ c.loop-place.invariant.fits fits;
    }

pub returns-then-n-lt0-clause-place : goal.returns-then-n-lt0-clause-place
returns-then-n-lt0-clause-place c =
    let z = get_or c.args.ints.now c.loop-place.place (pos 0) in
    let fits : FitsSigned w32 z = search rules in
    sym (position_found (λ y. not (int_le (pos 0) y)) c.args.ints.now c.loop-place.place (pos 0) c.loop-place-test.true c.loop-place.invariant.right (is_negative z (rw (to_z-of_z w32 z fits) at c.if-n-lt0.true)))

pub returns : goal.returns
returns c = record {
  place = sym (position_none (λ y. not (int_le (pos 0) y)) c.args.ints.now (pos 0) (λ k h. c.loop-place.invariant.right k (omega arith)));
  range = All-from_get_or (FitsSigned w32) c.args.ints.now (pos 0) (λ k h. c.loop-place.invariant.fits k (omega arith));
}
