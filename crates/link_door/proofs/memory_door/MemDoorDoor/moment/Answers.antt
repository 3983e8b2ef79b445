use Rattle.std.proofs.lemmas.Grind.{common_steps}
use Rattle.std.proofs.Common.{arith}
use Rattle.link_door.proofs.memory_door.MemDoorDoor.moment.Goals as goal

pub returns-then-self-len-clause-gives : goal.returns-then-self-len-clause-gives
returns-then-self-len-clause-gives c = grind (arith, common_steps)
