use Rattle.std.proofs.Common.{List, ℕ, ap, arith, length, sum_by}
use Rattle.std.proofs.lemmas.List.Sums.{sum_by_more_le}
use Rattle.target_expr.proofs.Limits.{pred_bytes}
use Rattle.target_expr.proofs.sums.bytes_of.Goals as goal

pub overflow_add-all : goal.overflow_add-all
overflow_add-all c =
    let xs = c.as_slice-value-items.result.now in
    let f : List ℕ → ℕ = length in
    omega (
      arith,
      sum_by_more_le f xs c.loop-value.value-index c.value-item.result c.loop-value-test.true,
      pred_bytes c.args.pred.now c.requires,
      ap f c.value-item.is,
      ap (sum_by f) c.as_slice-value-items.ensures,
      c.loop-value.invariant,
      c.len.ensures,
    )
