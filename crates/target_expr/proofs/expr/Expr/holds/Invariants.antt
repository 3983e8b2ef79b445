use Rattle.std.proofs.Common.{◌≡◌, ◌+◌, take, false}
use Rattle.target_expr.specs.Truth.{holds}
use Rattle.target_expr.proofs.expr.Expr.holds.Given as goal

abbrev pub invariant-loop-conjunction : goal.invariant-loop-conjunction
invariant-loop-conjunction g l = record {
  none : holds l.assignment (take l.conjunction-index l.conjunction-items) ≡ false;
  steps : l.steps ≡ l.fn.steps + l.conjunction-index;
}
