use Rattle.plain_exchange.proofs.laws.effects_lead_to_states.Goals as goal
use Rattle.plain_exchange.proofs.Applying.{effect_applied, nothing_changed, replayed}

pub returns-clause-effect : goal.returns-clause-effect
returns-clause-effect c = effect_applied

pub returns-clause-none : goal.returns-clause-none
returns-clause-none c = nothing_changed

pub returns-clause-history : goal.returns-clause-history
returns-clause-history c = replayed
