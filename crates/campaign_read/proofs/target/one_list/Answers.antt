use Rattle.std.proofs.Common.{rules}
use Rattle.campaign_read.proofs.target.one_list.Goals as goal

pub returns : goal.returns
returns c = search rules
