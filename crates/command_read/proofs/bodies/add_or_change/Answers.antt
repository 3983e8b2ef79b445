use Rattle.std.proofs.Common.{rules}
use Rattle.command_read.proofs.bodies.add_or_change.Goals as goal

pub returns-in-Some : goal.returns-in-Some
returns-in-Some c = search rules
