use Rattle.std.proofs.Common.{arith}
use Rattle.address_keys.proofs.Comparing.{all_told, one_more}
use Rattle.address_keys.proofs.mac.are_digits_of.Goals as goal

pub bytes-preserved : goal.bytes-preserved
bytes-preserved c = one_more c.bytes.differing c.bytes.i c.args.digits.now c.args.token.now (omega arith) (omega arith) c.bytes.invariant

pub returns : goal.returns
returns c = all_told c.bytes.differing c.bytes.i c.args.digits.now c.args.token.now (omega arith) (omega arith) c.bytes.invariant
