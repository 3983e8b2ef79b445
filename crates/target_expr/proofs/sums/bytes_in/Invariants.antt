use Rattle.std.proofs.Common.{◌≡◌, take}
use Rattle.target_expr.specs.Pairs.{bytes_in}
use Rattle.target_expr.proofs.sums.bytes_in.Given as goal

abbrev pub invariant-loop-pred : goal.invariant-loop-pred
invariant-loop-pred l = l.all ≡ bytes_in (take l.pred-index l.conjunction)
