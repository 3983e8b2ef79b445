use Rattle.std.proofs.Common.{arith}
use Rattle.link_door.proofs.Links.{taken_last}
use Rattle.link_door.proofs.memory_door.first_of.Goals as goal

pub returns-clause-first : goal.returns-clause-first
returns-clause-first c = taken_last _ _ c.pop.result _ _ _ c.pop.ensures.items (omega (arith, c.pop.new.self.ok.0)) c.pop.ensures.cases
