use Rattle.std.proofs.Common.{rules}
use Rattle.campaign.proofs.check.is_side.Goals as goal

pub returns-then-pixels-ge1 : goal.returns-then-pixels-ge1
returns-then-pixels-ge1 c = search rules
