use Rattle.std.proofs.Common.{◌≡◌, take, true}
use Rattle.target_expr.specs.Truth.{conjunction_holds}
use Rattle.target_expr.proofs.truth.conjunction_holds.Given as goal

abbrev pub invariant-loop-pred : goal.invariant-loop-pred
invariant-loop-pred l = conjunction_holds l.assignment (take l.pred-index l.conjunction) ≡ true
