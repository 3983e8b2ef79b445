use Rattle.std.proofs.Common.{rules}
use Rattle.campaign.proofs.check.is_text.Goals as goal

pub returns-then-len-ge1 : goal.returns-then-len-ge1
returns-then-len-ge1 c = search rules
