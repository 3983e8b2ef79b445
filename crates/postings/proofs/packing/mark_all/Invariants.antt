use Rattle.std.proofs.Common.{◌≡◌, ◌<◌, ◌≤◌, ℕ, false, length}
use Rattle.postings.specs.Order.{entry_at}
use Rattle.postings.specs.Packed.{is_marked}
use Rattle.postings.proofs.packing.mark_all.Given as goal

abbrev pub invariant-loop-place : goal.invariant-loop-place
invariant-loop-place l = record {
  len : length l.marks ≡ length l.fn.marks;
  done : (i : ℕ) → i < l.place → is_marked l.marks i ≡ (entry_at l.entries i).negated;
  blank : (i : ℕ) → l.place ≤ i → is_marked l.marks i ≡ false;
}
