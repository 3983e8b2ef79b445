use Rattle.std.proofs.Common.{rules}
use Rattle.link_door.proofs.memory_door.MemDoorDoor.done.Goals as goal

pub returns-else-len-spare : goal.returns-else-len-spare
returns-else-len-spare c = search rules
