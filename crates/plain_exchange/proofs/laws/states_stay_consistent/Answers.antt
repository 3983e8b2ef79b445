use Rattle.plain_exchange.proofs.laws.states_stay_consistent.Goals as goal
use Rattle.plain_exchange.proofs.Forgetting.{forget_kept}
use Rattle.plain_exchange.proofs.Keeping.{applied_kept, empty_consistent, step_kept}

pub returns-clause-first : goal.returns-clause-first
returns-clause-first c = empty_consistent

pub returns-clause-effect : goal.returns-clause-effect
returns-clause-effect c = applied_kept

pub returns-clause-command : goal.returns-clause-command
returns-clause-command c = step_kept

pub returns-clause-forgetting : goal.returns-clause-forgetting
returns-clause-forgetting c = forget_kept
