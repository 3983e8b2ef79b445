use Rattle.std.proofs.Common.{◌≡◌, ◌≤◌, ◌++◌, length, map, reverse}
use Rattle.worker_pool.specs.Hiring.{Job}
use Rattle.worker_pool.proofs.jobs.doors_of.Given as goal

abbrev pub invariant-loop-seat : goal.invariant-loop-seat
invariant-loop-seat g l = record {
  doors : l.room.items ++ map (λ (j : Job g.row.G.Denot). j.1) (reverse l.jobs.items) ≡ map (λ (j : Job g.row.G.Denot). j.1) l.fn.jobs.items;
  room : length l.jobs.items ≤ l.room.spare;
}

abbrev pub decreases-loop-seat : goal.decreases-loop-seat
decreases-loop-seat g l = length l.jobs.items
