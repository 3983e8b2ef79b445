use Rattle.std.proofs.Common.{◌≡◌, take}
use Rattle.target_expr.specs.Pairs.{values_in}
use Rattle.target_expr.proofs.sums.values_in.Given as goal

abbrev pub invariant-loop-pred : goal.invariant-loop-pred
invariant-loop-pred l = l.all ≡ values_in (take l.pred-index l.conjunction)
