use Rattle.std.proofs.Common.{rules}
use Rattle.campaign.proofs.check.size_fault.Goals as goal

pub returns-then-is_size : goal.returns-then-is_size
returns-then-is_size c = search rules
