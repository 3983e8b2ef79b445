use Rattle.plain_exchange.proofs.Longest.{forgetting_told}
use Rattle.plain_exchange.proofs.laws.forgetting_is_counted.Goals as goal

pub returns : goal.returns
returns c = λ settings moment keep s h. forgetting_told moment keep s h
