use Rattle.exchange_state.proofs.Rising.{faults_later, published_later, rising_front, stable_later}
use Rattle.exchange_state.proofs.laws.marks_do_not_fall.Goals as goal

pub returns : goal.returns
returns c = record { front = rising_front; faults = faults_later; durable = stable_later; published = published_later }
