use Rattle.std.proofs.Common.{rules}
use Rattle.run_commands.proofs.serve_command.end_without_doors.Goals as goal

pub returns-in-Memory-clause-ends : goal.returns-in-Memory-clause-ends
returns-in-Memory-clause-ends g c = search rules
