use Rattle.std.proofs.Common.{rules}
use Rattle.rtb_io.proofs.status.Status.code.Goals as goal

pub returns-in-NotRead : goal.returns-in-NotRead
returns-in-NotRead c = search rules
