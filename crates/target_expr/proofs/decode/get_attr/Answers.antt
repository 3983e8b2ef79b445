use Rattle.target_expr.proofs.Encoding.{attr_no_byte}
use Rattle.target_expr.proofs.decode.get_attr.Goals as goal

pub returns-in_err-n : goal.returns-in_err-n
returns-in_err-n c = rw c.from_residual.ensures (attr_no_byte c.args.bytes.now c.args.place c.in_err-n.ensures)
