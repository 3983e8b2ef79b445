use Rattle.exchange_state.proofs.Owning.{knows_journal, left_alone}
use Rattle.exchange_state.proofs.laws.a_worker_knows_whether_it_has_the_journal.Goals as goal

pub returns : goal.returns
returns c = record { has = knows_journal; others = left_alone }
