use Rattle.compaction.proofs.Begun.{follows_on}
use Rattle.compaction.proofs.beside.Beside.follow.Goals as goal

pub returns-clause-follows : goal.returns-clause-follows
returns-clause-follows g c = λ keep passed written first into u.
    follows_on keep passed written first into c.args.from.now c.pass_all.new.from c.args.self.now c.pass_all.new.self c.pass_all.result u c.pass_all.ensures.same (c.pass_all.ensures.passes keep passed written into u.stands)
