use Rattle.std.proofs.Common.{rules}
use Rattle.run_commands.proofs.audit_command.legal_line.Goals as goal

pub returns : goal.returns
returns c = search rules
