use Rattle.std.proofs.Common.{rules}
use Rattle.run_commands.proofs.serve_command.end_behind.Goals as goal

pub returns-in-Served-clause-ends : goal.returns-in-Served-clause-ends
returns-in-Served-clause-ends g c = search rules

pub returns-in-DoorFailed-clause-ends : goal.returns-in-DoorFailed-clause-ends
returns-in-DoorFailed-clause-ends g c = search rules

pub returns-in-LastWriteFailed-clause-ends : goal.returns-in-LastWriteFailed-clause-ends
returns-in-LastWriteFailed-clause-ends g c = search rules
