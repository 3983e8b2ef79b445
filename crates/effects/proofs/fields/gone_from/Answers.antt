use Rattle.std.proofs.Common.{rules}
use Rattle.effects.proofs.fields.gone_from.Goals as goal

pub returns : goal.returns
returns c = search rules
