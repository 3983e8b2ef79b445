use Rattle.conj_index.proofs.Costs.{one_cost}
use Rattle.conj_index.proofs.laws.a_find_costs_what_its_campaigns_say.Goals as goal

pub returns : goal.returns
returns c = λ added index a is. one_cost added index a is
