use Rattle.std.proofs.Common.{rules}
use Rattle.campaign.proofs.check.bid_fault.Goals as goal

pub returns-then-get-ge1-clause-value : goal.returns-then-get-ge1-clause-value
returns-then-get-ge1-clause-value c = search rules
