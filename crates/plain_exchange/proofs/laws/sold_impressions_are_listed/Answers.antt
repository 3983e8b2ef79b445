use Rattle.plain_exchange.proofs.laws.sold_impressions_are_listed.Goals as goal
use Rattle.plain_exchange.proofs.Answering.{sold_is_listed}

pub returns : goal.returns
returns c = sold_is_listed
