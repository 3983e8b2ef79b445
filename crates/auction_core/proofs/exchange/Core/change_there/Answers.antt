use Rattle.std.proofs.Common.{rules}
use Rattle.auction_core.proofs.exchange.Core.change_there.Goals as goal

pub returns-in-Some : goal.returns-in-Some
returns-in-Some c = search rules
