use Rattle.std.proofs.Common.{ap, refl, subst, sym, ◌∙◌}
use Rattle.exchange_run.specs.Run.{asks_audit, asks_which}
use Rattle.exchange_run.proofs.Apart.{apart}
use Rattle.exchange_run.proofs.Asked.{refused}
use Rattle.exchange_run.proofs.Asking.{other_words}
use Rattle.run_commands.specs.Endings.{EndsBy}
use Rattle.exchange_run.proofs.commands.run_other.Goals as goal

pub returns-in-Ok-clause-runs : goal.returns-in-Ok-clause-runs
returns-in-Ok-clause-runs g c = rw (other_words c.args.words.now c.in-Ok.line c.requires c.in-Ok.ensures) c.run_line-outcome.ensures.runs

pub returns-in-Ok-clause-unread : goal.returns-in-Ok-clause-unread
returns-in-Ok-clause-unread g c = λ best trace.
    let words = other_words c.args.words.now c.in-Ok.line c.requires c.in-Ok.ensures in
    c.run_line-outcome.ensures.unread (sym (ap asks_which words) ∙ best) (sym (ap asks_audit words) ∙ trace)

pub returns-in-Err-clause-runs : goal.returns-in-Err-clause-runs
returns-in-Err-clause-runs g c =
    let h = c.without_world.ensures in
    let kept = g.K.Sink.written in
    let s = c.args.source.now in
    let end = c.without_world.result in
    let went = subst (λ code. EndsBy c.status_of.result (kept c.args.sink.now) (kept c.end_with.new.sink) code) (sym (h.status ∙ c.code.ensures)) c.end_with.ensures.ends in
    refused g.W.World g.W.Disk.Disk g.W.Door.Door g.W.Door.Link.Link c.args.world.now c.args.world.now (g.S.Source.left s) (g.S.Source.left s) (g.S.Source.faults s) (g.S.Source.faults s) (kept c.args.sink.now) (kept c.end_with.new.sink) end.status
    (record { doors = end.doors; disk = end.disk; other = end.other; last = end.last; past = end.past }) c.args.words.now c.in-Err.fault c.status_of.result c.requires c.in-Err.ensures c.status_of.ensures.usage c.status_of.ensures.memory (apart _ _ _ _ _ _ h.doors h.disk h.other h.last h.past) refl refl went
