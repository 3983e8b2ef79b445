use Rattle.std.proofs.Common.{arith, ap, length, length-take}
use Rattle.link_door.proofs.memory_world.take_text.Goals as goal

pub returns-clause-most : goal.returns-clause-most
returns-clause-most c = omega (arith, ap length c.truncate.ensures, length-take 65 c.take_first-text.result)
