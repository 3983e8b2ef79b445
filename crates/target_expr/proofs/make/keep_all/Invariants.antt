use Rattle.std.proofs.Common.{◌≡◌, take}
use Rattle.target_expr.specs.Kept.{keep}
use Rattle.target_expr.proofs.make.keep_all.Given as goal

abbrev pub invariant-loop-conjunction : goal.invariant-loop-conjunction
invariant-loop-conjunction l = l.all.items ≡ keep (take l.conjunction-index l.raw)
