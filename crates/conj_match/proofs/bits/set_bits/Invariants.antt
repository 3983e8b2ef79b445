use Rattle.std.proofs.Common.{◌≡◌, ◌==◌, length, take}
use Rattle.std.specs.List.{list_any}
use Rattle.conj_match.specs.Bits.{AreSet}
use Rattle.conj_match.proofs.bits.set_bits.Given as goal

abbrev pub invariant-loop-number : goal.invariant-loop-number
invariant-loop-number l = record {
  len : length l.bits ≡ length l.fn.bits;
  set : AreSet (λ i. list_any (λ n. i == n) (take l.number-index l.numbers)) l.fn.bits l.bits;
}
