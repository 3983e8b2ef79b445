use Rattle.std.proofs.Common.{rules}
use Rattle.campaign.proofs.cap.Cap.new.Goals as goal

pub invariant_of-result : goal.invariant_of-result
invariant_of-result c = search rules

pub returns-then-seconds-le-MOST_SECONDS : goal.returns-then-seconds-le-MOST_SECONDS
returns-then-seconds-le-MOST_SECONDS c = search rules
