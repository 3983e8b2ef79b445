use Rattle.std.proofs.Common.{rules}
use Rattle.rtb_types.proofs.request.BidRequest.is_valid.Goals as goal

pub returns-then-is_from-2 : goal.returns-then-is_from-2
returns-then-is_from-2 c = search rules
