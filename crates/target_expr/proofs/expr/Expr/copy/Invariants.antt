use Rattle.std.proofs.Common.{◌≡◌, take}
use Rattle.target_expr.proofs.expr.Expr.copy.Given as goal

abbrev pub invariant-loop-conjunction : goal.invariant-loop-conjunction
invariant-loop-conjunction l = l.all.items ≡ take l.conjunction-index l.conjunction-items
