use Rattle.std.proofs.Common.{rules, sym}
use Rattle.byte_fields.proofs.scalars.get_four.Goals as goal
use Rattle.byte_fields.proofs.Numbers.{four_there, four_none}

pub returns : goal.returns
returns c =
    (search rules, four_there c.args.bytes.now c.args.place (search rules) c.in_ok-n.n (sym c.in_ok-n.ensures))

pub returns-in_err-n : goal.returns-in_err-n
returns-in_err-n c =
    rw c.from_residual.ensures (four_none c.args.bytes.now c.args.place (sym c.in_err-n.ensures))
