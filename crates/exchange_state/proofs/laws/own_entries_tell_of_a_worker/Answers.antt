use Rattle.exchange_state.proofs.Owning.{failed_append, failed_own, mine_append, mine_own}
use Rattle.exchange_state.proofs.laws.own_entries_tell_of_a_worker.Goals as goal

pub returns : goal.returns
returns c = record { calls = mine_own; failed = failed_own; more_calls = mine_append; more_failed = failed_append }
