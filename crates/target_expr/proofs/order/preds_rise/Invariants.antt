use Rattle.std.proofs.Common.{◌≡◌, ◌-◌, drop}
use Rattle.target_expr.specs.Kept.{rise, attr_below}
use Rattle.target_expr.proofs.order.preds_rise.Given as goal

abbrev pub invariant-loop-i : goal.invariant-loop-i
invariant-loop-i l = rise attr_below (drop (l.i - 1) l.preds) ≡ rise attr_below l.preds
