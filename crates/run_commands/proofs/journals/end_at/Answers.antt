use Rattle.std.proofs.Common.{rules}
use Rattle.run_commands.proofs.journals.end_at.Goals as goal

pub returns-in-DiskFailed-clause-ends : goal.returns-in-DiskFailed-clause-ends
returns-in-DiskFailed-clause-ends g c = search rules
