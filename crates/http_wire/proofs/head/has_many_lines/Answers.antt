use Rattle.std.proofs.Common.{arith}
use Rattle.http_wire.proofs.Counts.{not_many}
use Rattle.http_wire.proofs.head.has_many_lines.Goals as goal

pub returns-else-head-gt-FEW_BYTES : goal.returns-else-head-gt-FEW_BYTES
returns-else-head-gt-FEW_BYTES c = not_many c.args.head.now c.requires (omega (arith, c.if-head-gt-FEW_BYTES.false))
