use Rattle.std.proofs.Common.{◌≡◌, take}
use Rattle.target_expr.proofs.copy.copy_conjunction.Given as goal

abbrev pub invariant-loop-pred : goal.invariant-loop-pred
invariant-loop-pred l = l.preds.items ≡ take l.pred-index l.conjunction
