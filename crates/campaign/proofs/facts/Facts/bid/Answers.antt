use Rattle.campaign.proofs.facts.Facts.bid.Goals as goal
use Rattle.campaign.proofs.Rules.{rules_of}

pub returns-clause-some : goal.returns-clause-some
returns-clause-some c = (rules_of c.self.inside.parts c.self.invariant.kept.faultless).bid_positive
