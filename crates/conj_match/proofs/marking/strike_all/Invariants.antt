use Rattle.std.proofs.Common.{◌≡◌, ◌*◌, length}
use Rattle.postings.specs.Packed.{unpack}
use Rattle.conj_match.specs.Strikes.{AreStruck}
use Rattle.conj_match.proofs.marking.strike_all.Given as goal

abbrev pub invariant-loop-place : goal.invariant-loop-place
invariant-loop-place l = record {
  len : length l.marks ≡ length l.fn.marks;
  struck : AreStruck l.fn.marks (unpack l.ids l.negated) (64 * l.place) l.marks;
}
