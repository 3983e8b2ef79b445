use Rattle.campaign.proofs.laws.facts_tell_their_ends.Goals as goal
use Rattle.campaign.proofs.Decoding.{capped_ends, encodable_code}

pub returns-clause-uncapped : goal.returns-clause-uncapped
returns-clause-uncapped c = encodable_code

pub returns-clause-capped : goal.returns-clause-capped
returns-clause-capped c = capped_ends
