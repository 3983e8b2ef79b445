use Rattle.plain_exchange.proofs.laws.kept_effects_make_the_state.Goals as goal
use Rattle.plain_exchange.proofs.Compacting.{forgotten_kept, kept_made}

pub returns-clause-state : goal.returns-clause-state
returns-clause-state c = kept_made

pub returns-clause-forgotten : goal.returns-clause-forgotten
returns-clause-forgotten c = λ keep opening s e. forgotten_kept opening s keep e
