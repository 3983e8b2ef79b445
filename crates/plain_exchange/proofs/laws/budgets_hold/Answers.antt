use Rattle.plain_exchange.proofs.laws.budgets_hold.Goals as goal
use Rattle.plain_exchange.proofs.Keeping.{made_consistent, replay_kept}

pub returns-clause-opened : goal.returns-clause-opened
returns-clause-opened c = λ opening s e. (made_consistent opening s e).solvent

pub returns-clause-ever : goal.returns-clause-ever
returns-clause-ever c = λ settings opening s calls e. (replay_kept settings s calls (made_consistent opening s e)).solvent
