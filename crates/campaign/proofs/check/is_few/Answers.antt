use Rattle.std.proofs.Common.{rules}
use Rattle.campaign.proofs.check.is_few.Goals as goal

pub returns : goal.returns
returns c = search rules
