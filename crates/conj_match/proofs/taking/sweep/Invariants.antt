use Rattle.std.proofs.Common.{◌≡◌, ◌≤◌, ◌<◌, ◌*◌, ◌||◌, ℕ, length, slice_index}
use Rattle.postings.specs.Packed.{is_marked}
use Rattle.conj_match.specs.Tally.{is_hit}
use Rattle.conj_match.proofs.taking.sweep.Given as goal

abbrev pub invariant-loop-place : goal.invariant-loop-place
invariant-loop-place l = record {
  len : length l.hits ≡ length l.fn.hits;
  done : (i : ℕ) → i < 64 * l.place → is_marked l.hits i ≡ (is_marked l.fn.hits i || is_hit l.k (slice_index l.marks i));
  ahead : (i : ℕ) → 64 * l.place ≤ i → is_marked l.hits i ≡ is_marked l.fn.hits i;
}
