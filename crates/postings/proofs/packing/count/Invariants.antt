use Rattle.std.proofs.Common.{◌≡◌, ◌+◌}
use Rattle.postings.proofs.packing.count.Given as goal

abbrev pub invariant-loop : goal.invariant-loop
invariant-loop g l = l.steps ≡ l.fn.steps + l.counter
