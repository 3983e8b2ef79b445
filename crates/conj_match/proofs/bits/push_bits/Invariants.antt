use Rattle.std.proofs.Common.{ℕ}
use Rattle.conj_match.proofs.Words.{ArePushed}
use Rattle.conj_match.proofs.bits.push_bits.Given as goal

abbrev pub invariant-loop-rest : goal.invariant-loop-rest
invariant-loop-rest l = (m : ℕ) × ArePushed l.word l.base l.fn.numbers.items l.rest m l.numbers.items

abbrev pub decreases-loop-rest : goal.decreases-loop-rest
decreases-loop-rest l = l.rest
