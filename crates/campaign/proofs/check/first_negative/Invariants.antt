use Rattle.std.proofs.Common.{◌≡◌, ℕ, ◌<◌, get_or, false, not, pos, int_le, FitsSigned}
use Rattle.std.specs.Int.{w32}
use Rattle.campaign.proofs.check.first_negative.Given as goal

abbrev pub invariant-loop-place : goal.invariant-loop-place
invariant-loop-place l = record {
  right : (k : ℕ) → k < l.place → not (int_le (pos 0) (get_or l.ints k (pos 0))) ≡ false;
  fits : (k : ℕ) → k < l.place → FitsSigned w32 (get_or l.ints k (pos 0));
}
