use Rattle.std.proofs.Common.{◌*◌}
use Rattle.postings.specs.Packed.{is_marked}
use Rattle.conj_match.specs.Bits.{AreThose}
use Rattle.conj_match.proofs.bits.push_numbers.Given as goal

abbrev pub invariant-loop-place : goal.invariant-loop-place
invariant-loop-place l = AreThose (is_marked l.bits) (64 * l.place) l.numbers.items
