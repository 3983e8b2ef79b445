use Rattle.deal_rules.proofs.Standing.{offers_stand}
use Rattle.deal_rules.proofs.offering.offers_stand.Goals as goal

pub returns : goal.returns
returns c = offers_stand
