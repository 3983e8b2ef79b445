use Rattle.std.proofs.Common.{rules}
use Rattle.campaign_read.proofs.body.target_fault.Goals as goal

pub returns-in_default : goal.returns-in_default
returns-in_default c = search rules
