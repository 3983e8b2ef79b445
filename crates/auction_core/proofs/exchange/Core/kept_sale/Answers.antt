use Rattle.std.proofs.lemmas.Grind.{common_steps}
use Rattle.std.proofs.Common.{arith}
use Rattle.auction_core.proofs.exchange.Core.kept_sale.Goals as goal

pub returns : goal.returns
returns c = grind (arith, common_steps)
