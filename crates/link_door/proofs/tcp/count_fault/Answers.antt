use Rattle.std.proofs.Common.{rules}
use Rattle.link_door.proofs.tcp.count_fault.Goals as goal

pub returns-clause-counted : goal.returns-clause-counted
returns-clause-counted c = search rules
