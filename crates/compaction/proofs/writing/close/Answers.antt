use Rattle.compaction.proofs.writing.close.Goals as goal

pub returns-in-Ok-clause-closes : goal.returns-in-Ok-clause-closes
returns-in-Ok-clause-closes g c = λ payloads adds. (c.in-Ok.ensures.any_moment payloads adds, c.in-Ok.ensures.finished payloads adds)

pub returns-in-Err-clause-closes : goal.returns-in-Err-clause-closes
returns-in-Err-clause-closes g c = λ payloads adds. c.in-Err.ensures.any_moment payloads adds
