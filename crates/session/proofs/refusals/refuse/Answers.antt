use Rattle.session.specs.Talk.{memory_closes}
use Rattle.session.proofs.Served.{memory_tail}
use Rattle.session.proofs.refusals.refuse.Goals as goal

pub returns-then-is_err-clause-sent : goal.returns-then-is_err-clause-sent
returns-then-is_err-clause-sent g c = (memory_closes, memory_tail c.args.status c.args.word.now c.out_of_memory.result c.out_of_memory.ensures.end, c.out_of_memory.ensures.sent)
