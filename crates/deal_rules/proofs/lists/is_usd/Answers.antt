use Rattle.std.proofs.Common.{rules}
use Rattle.deal_rules.proofs.lists.is_usd.Goals as goal

pub returns : goal.returns
returns c = search rules
