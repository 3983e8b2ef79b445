use Rattle.std.proofs.Common.{◌≡◌, take, ◌∙◌, ap, arith}
use Rattle.std.proofs.lemmas.List.{take_all}
use Rattle.std.proofs.lemmas.List.Sums.{sum_by_more_le}
use Rattle.target_expr.specs.Pairs.{values_in, values_of}
use Rattle.target_expr.specs.Kept.{is_kept, is_kept_conjunction}
use Rattle.target_expr.proofs.Limits.{expr_values, expr_conjunctions, passes_at}
use Rattle.target_expr.proofs.expr.Expr.values.Goals as goal

pub overflow_add-all : goal.overflow_add-all
overflow_add-all c =
    let xs = c.as_slice-conjunction-items.result.now in
    let kept = ap is_kept c.as_slice-conjunction-items.ensures.value ∙ c.as_slice-conjunction-items.ensures.is_kept in
    omega (
      arith,
      sum_by_more_le values_in xs c.loop-conjunction.conjunction-index c.conjunction-item.result c.loop-conjunction-test.true,
      expr_values xs kept,
      ap values_in c.conjunction-item.is,
      ap values_in c.as_slice.ensures,
      c.loop-conjunction.invariant,
      c.values_in-all.ensures,
    )

pub values_in-all-requires : goal.values_in-all-requires
values_in-all-requires c =
    let xs = c.as_slice-conjunction-items.result.now in
    let kept = ap is_kept c.as_slice-conjunction-items.ensures.value ∙ c.as_slice-conjunction-items.ensures.is_kept in
    ap is_kept_conjunction (c.as_slice.ensures ∙ c.conjunction-item.is)
    ∙ passes_at is_kept_conjunction xs c.loop-conjunction.conjunction-index c.conjunction-item.result c.loop-conjunction-test.true (expr_conjunctions xs kept)

pub returns-clause-bound : goal.returns-clause-bound
returns-clause-bound c =
    let xs = c.as_slice-conjunction-items.result.now in
    let kept = ap is_kept c.as_slice-conjunction-items.ensures.value ∙ c.as_slice-conjunction-items.ensures.is_kept in
    let all : take c.loop-conjunction.conjunction-index xs ≡ xs = take_all c.loop-conjunction.conjunction-index xs c.loop-conjunction-test.false in
    omega (arith, expr_values xs kept, ap values_of all, c.loop-conjunction.invariant)
