use Rattle.std.proofs.Common.{◌≡◌, take}
use Rattle.target_expr.specs.Pairs.{sizes_of}
use Rattle.target_expr.proofs.expr.Expr.sizes.Given as goal

abbrev pub invariant-loop-conjunction : goal.invariant-loop-conjunction
invariant-loop-conjunction l = l.sizes ≡ sizes_of (take l.conjunction-index l.conjunction-items)
