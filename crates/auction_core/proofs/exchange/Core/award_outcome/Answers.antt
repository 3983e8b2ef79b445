use Rattle.std.proofs.Common.{rules}
use Rattle.auction_core.proofs.exchange.Core.award_outcome.Goals as goal

pub returns-then-is_too_many : goal.returns-then-is_too_many
returns-then-is_too_many c = search rules
