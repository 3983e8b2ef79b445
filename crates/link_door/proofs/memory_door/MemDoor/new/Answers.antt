use Rattle.std.proofs.lemmas.Grind.{common_steps}
use Rattle.std.proofs.Common.{arith}
use Rattle.link_door.proofs.memory_door.MemDoor.new.Goals as goal

pub returns-clause-left : goal.returns-clause-left
returns-clause-left c = grind (arith, common_steps)
