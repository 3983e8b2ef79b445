use Rattle.std.proofs.Common.{rules}
use Rattle.http_wire.proofs.message.message_step.Goals as goal

pub returns : goal.returns
returns c = search rules
