use Rattle.std.proofs.Common.{rules}
use Rattle.auction_core.proofs.awards.times.Goals as goal

pub returns : goal.returns
returns c = search rules
