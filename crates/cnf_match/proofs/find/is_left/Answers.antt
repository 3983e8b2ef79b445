use Rattle.std.proofs.Common.{arith}
use Rattle.cnf_match.proofs.Left.{left_there}
use Rattle.cnf_match.proofs.find.is_left.Goals as goal

pub returns : goal.returns
returns c = left_there c.args.left.now c.args.place _ c.are_above.result (omega arith) c.if-first-left.false c.are_above.ensures
