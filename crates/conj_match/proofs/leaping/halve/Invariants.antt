use Rattle.std.proofs.Common.{◌≤◌, ◌+◌, ◌-◌, ◌^◌, ℕ}
use Rattle.conj_match.specs.Skip.{Reaches}
use Rattle.conj_match.proofs.leaping.halve.Given as goal

abbrev pub invariant-loop-reach : goal.invariant-loop-reach
invariant-loop-reach g l = record {
  reach : Reaches l.list l.origin l.id l.reach;
  from : l.fn.reach.low ≤ l.reach.low;
  cost : (m : ℕ) → l.fn.reach.high - l.fn.reach.low ≤ 2 ^ m → (c : ℕ) × (l.reach.high - l.reach.low ≤ 2 ^ c) × (l.steps + c ≤ l.fn.steps + m);
}

abbrev pub decreases-loop-reach : goal.decreases-loop-reach
decreases-loop-reach g l = l.reach.high - l.reach.low
