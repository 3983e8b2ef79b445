use Rattle.std.proofs.Common.{rules}
use Rattle.command_read.proofs.read.command_in.Goals as goal

pub returns-in-None : goal.returns-in-None
returns-in-None c = search rules
