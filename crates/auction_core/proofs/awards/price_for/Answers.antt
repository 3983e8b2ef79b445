use Rattle.std.proofs.Common.{rules}
use Rattle.auction_core.proofs.awards.price_for.Goals as goal

pub returns-then-win-n-clause-value : goal.returns-then-win-n-clause-value
returns-then-win-n-clause-value c = search rules
