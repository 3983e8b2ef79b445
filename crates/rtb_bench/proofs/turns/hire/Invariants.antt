use Rattle.std.proofs.Common.{◌≡◌, ◌≤◌, All, length}
use Rattle.std.specs.Prelude.{vec_capacity}
use Rattle.rtb_bench.specs.Turns.{IsFirst, IsHired}
use Rattle.rtb_bench.proofs.turns.hire.Given as goal

abbrev pub invariant-loop : goal.invariant-loop
invariant-loop l = IsFirst l.lock l.counter l.seat × All (IsHired l.lock) l.jobs.items × (length l.jobs.items ≡ l.counter) × (l.workers ≤ vec_capacity l.jobs)
