use Rattle.std.proofs.Common.{rules}
use Rattle.rtb_response.proofs.bid.price.Goals as goal

pub returns : goal.returns
returns c = search rules
