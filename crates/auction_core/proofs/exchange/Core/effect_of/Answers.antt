use Rattle.std.proofs.Common.{rules}
use Rattle.auction_core.proofs.exchange.Core.effect_of.Goals as goal

pub returns-in-None : goal.returns-in-None
returns-in-None c = search rules
