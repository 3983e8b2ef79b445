use Rattle.std.proofs.Common.{rules}
use Rattle.command_read.proofs.refusals.request_refusal.Goals as goal

pub returns-clause-refused : goal.returns-clause-refused
returns-clause-refused c = search rules
