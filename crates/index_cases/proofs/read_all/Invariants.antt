use Rattle.std.proofs.Common.{◌≤◌, ◌+◌, length}
use Rattle.index_cases.proofs.read_all.Given as goal

abbrev pub invariant-loop-place : goal.invariant-loop-place
invariant-loop-place l = length l.expressions ≤ length l.fn.expressions + l.place
