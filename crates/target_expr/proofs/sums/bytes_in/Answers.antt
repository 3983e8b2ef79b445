use Rattle.std.proofs.Common.{◌∙◌, ap, arith, length, sum_by}
use Rattle.std.proofs.lemmas.List.Sums.{sum_by_more_le}
use Rattle.target_expr.specs.declared.pred.Pred.{Pred}
use Rattle.target_expr.proofs.Limits.{conjunction_bytes, conjunction_preds, passes_at}
use Rattle.target_expr.specs.Kept.{is_kept_pred}
use Rattle.target_expr.proofs.sums.bytes_in.Goals as goal

pub overflow_add-all : goal.overflow_add-all
overflow_add-all c =
    let xs = c.args.conjunction.now in
    omega (
      arith,
      sum_by_more_le (λ (p : Pred). sum_by length p.values) xs c.loop-pred.pred-index c.pred-item.result c.loop-pred-test.true,
      conjunction_bytes xs c.requires,
      ap (λ (p : Pred). sum_by length p.values) c.pred-item.is,
      c.loop-pred.invariant,
      c.bytes_of-all.ensures,
    )

pub bytes_of-all-requires : goal.bytes_of-all-requires
bytes_of-all-requires c =
    let xs = c.args.conjunction.now in
    ap is_kept_pred c.pred-item.is ∙ passes_at is_kept_pred xs c.loop-pred.pred-index c.pred-item.result c.loop-pred-test.true (conjunction_preds xs c.requires)
