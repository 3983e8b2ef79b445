use Rattle.std.proofs.Common.{◌≡◌, ◌<◌, ◌≤◌, ℕ, get_or, length, map}
use Rattle.exchange_shared.specs.Seats.{lock_of}
use Rattle.worker_pool.specs.Hiring.{IsJoined, Job}
use Rattle.worker_pool.proofs.jobs.gather.Given as goal

abbrev pub invariant-loop-k : goal.invariant-loop-k
invariant-loop-k g l = record {
  joined : IsJoined (lock_of l.exchange) l.fn.jobs l.k l.seat;
  some : 0 < l.k;
  most : l.k ≤ length l.fn.jobs;
  many : length l.jobs ≡ length l.fn.jobs;
  same : (i : ℕ) (d : Job g.row.G.Denot) → l.k ≤ i → get_or l.jobs i d ≡ get_or l.fn.jobs i d;
  doors : map (λ (j : Job g.row.G.Denot). j.1) l.jobs ≡ map (λ (j : Job g.row.G.Denot). j.1) l.fn.jobs;
}
