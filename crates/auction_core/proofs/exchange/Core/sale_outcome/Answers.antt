use Rattle.std.proofs.Common.{rules}
use Rattle.auction_core.proofs.exchange.Core.sale_outcome.Goals as goal

pub returns : goal.returns
returns c = search rules
