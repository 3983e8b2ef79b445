use Rattle.exchange_state.proofs.Small.{edits_small, effects_small}
use Rattle.exchange_state.proofs.laws.counts_fit.Goals as goal

pub returns : goal.returns
returns c = record { edits = edits_small; effects = effects_small }
