use Rattle.std.proofs.Common.{rules}
use Rattle.auction_core.proofs.exchange.Core.pause_there.Goals as goal

pub returns-else-is_live : goal.returns-else-is_live
returns-else-is_live c = search rules
