use Rattle.std.proofs.Common.{sym, ◌∙◌, ap, arith}
use Rattle.std.proofs.lemmas.List.{take_all}
use Rattle.std.proofs.Common.{◌≡◌}
use Rattle.std.specs.List.{position_or_len}
use Rattle.target_expr.specs.Kept.{is_kept, is_kept_conjunction}
use Rattle.target_expr.specs.Truth.{conjunction_holds, holds, tests_in}
use Rattle.target_expr.proofs.Finds.{place_here, place_nowhere}
use Rattle.target_expr.proofs.Limits.{conjunction_preds, expr_conjunctions, passes_at}
use Rattle.target_expr.proofs.expr.Expr.holds.Goals as goal

pub conjunction_holds-requires : goal.conjunction_holds-requires
conjunction_holds-requires g c =
    let xs = c.as_slice-conjunction-items.result.now in
    let kept = ap is_kept c.as_slice-conjunction-items.ensures.value ∙ c.as_slice-conjunction-items.ensures.is_kept in
    conjunction_preds c.as_slice.result.now (ap is_kept_conjunction (c.as_slice.ensures ∙ c.conjunction-item.is) ∙ passes_at is_kept_conjunction xs c.loop-conjunction.conjunction-index c.conjunction-item.result c.loop-conjunction-test.true (expr_conjunctions xs kept))

pub returns-then-conjunction_holds-clause-steps : goal.returns-then-conjunction_holds-clause-steps
returns-then-conjunction_holds-clause-steps g c =
    let pairs = c.args.assignment.now in
    let xs = c.as_slice-conjunction-items.result.now in
    let at : position_or_len (conjunction_holds pairs) xs ≡ c.loop-conjunction.conjunction-index = place_here (conjunction_holds pairs) xs c.loop-conjunction.conjunction-index c.conjunction-item.result c.loop-conjunction-test.true c.loop-conjunction.invariant.none
    (ap (conjunction_holds pairs) (sym (c.as_slice.ensures ∙ c.conjunction-item.is)) ∙ sym c.conjunction_holds.ensures ∙ c.if-conjunction_holds.true) in
    omega (arith, at, ap (tests_in pairs) c.as_slice-conjunction-items.ensures.value, c.loop-conjunction.invariant.steps, c.loop-conjunction-test.true)

pub returns-clause-steps : goal.returns-clause-steps
returns-clause-steps g c =
    let pairs = c.args.assignment.now in
    let xs = c.as_slice-conjunction-items.result.now in
    let none = ap (holds pairs) (sym (take_all c.loop-conjunction.conjunction-index xs c.loop-conjunction-test.false)) ∙ c.loop-conjunction.invariant.none in
    omega (arith, place_nowhere (conjunction_holds pairs) xs none, ap (tests_in pairs) c.as_slice-conjunction-items.ensures.value, c.loop-conjunction.invariant.steps, c.loop-conjunction-test.false, c.loop-conjunction.auto.conjunction-index-end)
