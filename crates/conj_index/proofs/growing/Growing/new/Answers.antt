use Rattle.conj_index.proofs.Entering.{grown_none}
use Rattle.conj_index.proofs.growing.Growing.new.Goals as goal

pub returns : goal.returns
returns c = λ k. grown_none k (record { keys = c.new.result; lists = c.new-2.result }) c.new.ensures.empty c.new-2.ensures.items c.new.ensures.unique
