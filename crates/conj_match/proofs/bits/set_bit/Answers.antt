use Rattle.std.proofs.Common.{arith}
use Rattle.conj_match.proofs.Words.{bit_set}
use Rattle.conj_match.proofs.bits.set_bit.Goals as goal

pub returns-then-number-bits-clause-set : goal.returns-then-number-bits-clause-set
returns-then-number-bits-clause-set c = bit_set c.args.bits.now c.args.number (omega (arith, c.if-number-bits.true))
