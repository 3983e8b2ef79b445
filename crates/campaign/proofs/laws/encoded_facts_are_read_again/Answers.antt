use Rattle.campaign.proofs.laws.encoded_facts_are_read_again.Goals as goal
use Rattle.campaign.proofs.Decoding.{capped_again}

pub returns : goal.returns
returns c = capped_again
