use Rattle.std.proofs.Common.{rules}
use Rattle.rtb_disk.proofs.memory.MemDisk.is_stopped.Goals as goal

pub returns-in-Some : goal.returns-in-Some
returns-in-Some c = search rules
