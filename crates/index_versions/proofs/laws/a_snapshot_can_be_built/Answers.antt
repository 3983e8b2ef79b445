use Rattle.index_versions.proofs.Live.{live_are_few, live_rise}
use Rattle.index_versions.proofs.laws.a_snapshot_can_be_built.Goals as goal

pub returns : goal.returns
returns c = record { rising = live_rise; few = live_are_few }
