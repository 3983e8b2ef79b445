use Rattle.std.proofs.Common.{◌≡◌, ◌≤◌, ◌<◌, ◌+◌, ◌-◌, ◌*◌, ◌^◌, ℕ, length, min, slice_get}
use Rattle.postings.specs.Order.{entry_at}
use Rattle.conj_match.proofs.leaping.leap.Given as goal

abbrev pub invariant-loop-low : goal.invariant-loop-low
invariant-loop-low g l = record {
  left : l.origin + l.left ≡ length l.list;
  some : 1 ≤ l.low;
  high : l.high ≡ min (2 * l.low) l.left;
  ordered : l.low < l.high;
  below : (entry_at l.list (l.origin + l.low)).id < l.id;
  shown : l.entry ≡ slice_get l.list (l.origin + l.high);
  cost : (m : ℕ) × (l.low ≡ 2 ^ m) × (l.steps ≤ l.fn.steps + (m + 1));
}

abbrev pub decreases-loop-low : goal.decreases-loop-low
decreases-loop-low g l = length l.list - (l.origin + l.high)
