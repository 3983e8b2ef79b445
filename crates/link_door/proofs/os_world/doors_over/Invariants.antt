use Rattle.std.proofs.Common.{◌≡◌, ◌+◌, length}
use Rattle.link_door.proofs.os_world.doors_over.Given as goal

abbrev pub invariant-loop : goal.invariant-loop
invariant-loop g l = length l.doors + 1 ≡ l.counter
