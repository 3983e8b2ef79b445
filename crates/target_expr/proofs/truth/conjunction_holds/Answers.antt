use Rattle.std.proofs.Common.{ap, ◌∙◌}
use Rattle.target_expr.specs.Kept.{is_kept_pred}
use Rattle.target_expr.proofs.Limits.{passes_at}
use Rattle.target_expr.proofs.truth.conjunction_holds.Goals as goal

pub pred_holds-requires : goal.pred_holds-requires
pred_holds-requires c =
    ap is_kept_pred c.pred-item.is ∙ passes_at is_kept_pred c.args.conjunction.now c.loop-pred.pred-index c.pred-item.result c.loop-pred-test.true c.requires
