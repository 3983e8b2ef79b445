use Rattle.std.proofs.Common.{rules}
use Rattle.run_commands.proofs.status_lines.line.Goals as goal

pub returns-in-Usage : goal.returns-in-Usage
returns-in-Usage c = search rules
