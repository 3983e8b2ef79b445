use Rattle.std.proofs.Common.{rules}
use Rattle.rtb_disk.proofs.memory.fill.Goals as goal

pub returns-clause-count : goal.returns-clause-count
returns-clause-count c = search rules
