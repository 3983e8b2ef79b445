use Rattle.std.proofs.Common.{rules}
use Rattle.deal_rules.proofs.offering.is_open_to.Goals as goal

pub returns-then-allows_advertiser : goal.returns-then-allows_advertiser
returns-then-allows_advertiser c = search rules
