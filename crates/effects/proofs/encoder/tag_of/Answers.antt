use Rattle.std.proofs.Common.{rules}
use Rattle.effects.proofs.encoder.tag_of.Goals as goal

pub returns-in-Paused : goal.returns-in-Paused
returns-in-Paused c = search rules
