use Rattle.std.proofs.Common.{◌≡◌, ◌+◌, ◌++◌, length, map, reverse}
use Rattle.std.specs.Prelude.{vec_capacity}
use Rattle.exchange_shared.specs.Seats.{lock_of}
use Rattle.worker_pool.specs.Hiring.{AreHiring, Job}
use Rattle.worker_pool.proofs.hiring.put_jobs.Given as goal

abbrev pub invariant-loop-door : goal.invariant-loop-door
invariant-loop-door g l = record {
  hiring : AreHiring (lock_of l.exchange) l.fn.seat.origin l.jobs.items l.seat;
  doors : map (λ (j : Job g.row.G.Denot). j.1) l.jobs.items ++ reverse l.doors.items ≡ reverse l.fn.doors.items;
  many : length l.jobs.items + length l.doors.items ≡ length l.fn.doors.items;
  jobs_room : vec_capacity l.jobs ≡ vec_capacity l.fn.jobs;
  doors_room : vec_capacity l.doors ≡ vec_capacity l.fn.doors;
}

abbrev pub decreases-loop-door : goal.decreases-loop-door
decreases-loop-door g l = length l.doors.items
