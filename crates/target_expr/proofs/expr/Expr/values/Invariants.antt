use Rattle.std.proofs.Common.{◌≡◌, take}
use Rattle.target_expr.specs.Pairs.{values_of}
use Rattle.target_expr.proofs.expr.Expr.values.Given as goal

abbrev pub invariant-loop-conjunction : goal.invariant-loop-conjunction
invariant-loop-conjunction l = l.all ≡ values_of (take l.conjunction-index l.conjunction-items)
