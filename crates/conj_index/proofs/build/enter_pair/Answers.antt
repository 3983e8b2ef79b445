use Rattle.conj_index.specs.Growing.{shift}
use Rattle.conj_index.proofs.Entering.{grown_set}
use Rattle.conj_index.proofs.build.enter_pair.Goals as goal

pub returns-clause-grown : goal.returns-clause-grown
returns-clause-grown c = λ before grown.
    grown_set before (shift c.args.first c.args.pair) c.args.parts.now.items c.index_mut.result.now c.enter.new.self c.requires.0 c.index_mut.ensures.value
    c.in_ok-enter.ensures.added c.in_ok-enter.ensures.unique c.in_ok-enter.ensures.lists grown
