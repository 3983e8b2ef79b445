use Rattle.std.proofs.Common.{◌≡◌, take, sum_by, length}
use Rattle.target_expr.proofs.sums.bytes_of.Given as goal

abbrev pub invariant-loop-value : goal.invariant-loop-value
invariant-loop-value l = l.all ≡ sum_by length (take l.value-index l.value-items)
