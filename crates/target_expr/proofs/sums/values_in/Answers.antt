use Rattle.std.proofs.Common.{ap, arith, length}
use Rattle.std.proofs.lemmas.List.Sums.{sum_by_more_le}
use Rattle.target_expr.specs.declared.pred.Pred.{Pred}
use Rattle.target_expr.proofs.Limits.{conjunction_values}
use Rattle.target_expr.proofs.sums.values_in.Goals as goal

pub overflow_add-all : goal.overflow_add-all
overflow_add-all c =
    let xs = c.args.conjunction.now in
    omega (
      arith,
      sum_by_more_le (λ (p : Pred). length p.values) xs c.loop-pred.pred-index c.pred-item.result c.loop-pred-test.true,
      conjunction_values xs c.requires,
      ap (λ (p : Pred). length p.values) c.pred-item.is,
      c.loop-pred.invariant,
      c.len-all.ensures,
    )
