use Rattle.std.proofs.Common.{ℕ}
use Rattle.conj_match.proofs.Strikes.{WordStruck}
use Rattle.conj_match.proofs.marking.strike_word.Given as goal

abbrev pub invariant-loop-rest : goal.invariant-loop-rest
invariant-loop-rest l = (m : ℕ) × WordStruck l.ids l.negated l.place l.fn.marks l.rest m l.marks

abbrev pub decreases-loop-rest : goal.decreases-loop-rest
decreases-loop-rest l = l.rest
