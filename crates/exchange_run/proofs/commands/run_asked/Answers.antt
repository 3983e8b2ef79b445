use Rattle.std.proofs.Common.{◌≡◌, ◌||◌, ◌⊎◌, ℕ, None, true, false, ap, subst, sym, ◌∙◌}
use Rattle.std.proofs.lemmas.Bool.{false≢true}
use Rattle.rtb_io.specs.Statuses.{code_of}
use Rattle.rtb_io.specs.declared.status.Status.TheVariants.{NotWritten, Usage}
use Rattle.exchange_run.specs.Run.{Tries, asks_audit, asks_which, names_try, words_of}
use Rattle.exchange_run.specs.Words.{command_of}
use Rattle.exchange_run.proofs.Apart.{apart}
use Rattle.exchange_run.proofs.Asked.{of_asked, of_try}
use Rattle.exchange_run.proofs.Naming.{named}
use Rattle.exchange_run.proofs.Tracing.{no_audit, no_which}
use Rattle.exchange_run.proofs.commands.run_asked.Goals as goal

pub returns-then-is_try-clause-runs : goal.returns-then-is_try-clause-runs
returns-then-is_try-clause-runs g c =
    let h = c.without_world.ensures in
    let left = g.S.Source.left in
    let faults = g.S.Source.faults in
    let kept = g.K.Sink.written in
    let r = c.try_run in
    let s = c.args.source.now in
    let words = c.args.words.now in
    let end = c.without_world.result in
    let tries = subst (λ (code : ℕ). Tries words (left s) (left r.new.source) (faults s) (faults r.new.source) (kept c.args.sink.now) (kept r.new.sink) code) (sym h.status) (record { told = r.ensures.told; half_told = r.ensures.half_told }) in
    let usage : command_of words ≡ None → (end.status ≡ code_of Usage) ⊎ (end.status ≡ code_of NotWritten) = λ none. subst (λ (code : ℕ). (code ≡ code_of Usage) ⊎ (code ≡ code_of NotWritten)) (sym h.status) (r.ensures.usage none) in
    of_try g.W.World g.W.Disk.Disk g.W.Door.Door g.W.Door.Link.Link c.args.world.now c.args.world.now (left s) (left r.new.source) (faults s) (faults r.new.source) (kept c.args.sink.now) (kept r.new.sink) end.status
    (record { doors = end.doors; disk = end.disk; other = end.other; last = end.last; past = end.past }) words (sym c.if-is_try.ensures) (apart _ _ _ _ _ _ h.doors h.disk h.other h.last h.past) tries usage

pub returns-then-is_try-clause-unread : goal.returns-then-is_try-clause-unread
returns-then-is_try-clause-unread g c = λ reads_none.
    let is_try : names_try c.args.words.now ≡ true = sym c.if-is_try.ensures in
    absurd (false≢true (sym reads_none ∙ ap (λ b. b || (asks_which (words_of c.args.words.now) || asks_audit (words_of c.args.words.now))) is_try))

pub returns-clause-runs : goal.returns-clause-runs
returns-clause-runs g c =
    let left = g.S.Source.left in
    let faults = g.S.Source.faults in
    let kept = g.K.Sink.written in
    let r = c.run_other in
    let s = c.args.source.now in
    of_asked g.W.World g.W.Disk.Disk g.W.Door.Door g.W.Door.Link.Link c.args.world.now r.new.world (left s) (left r.new.source) (faults s) (faults r.new.source) (kept c.args.sink.now) (kept r.new.sink) r.result.status
    (record { doors = r.result.doors; disk = r.result.disk; other = r.result.other; last = r.result.last; past = r.result.past }) c.args.words.now (sym c.if-is_try.ensures) r.ensures.runs

pub returns-clause-unread : goal.returns-clause-unread
returns-clause-unread g c = λ reads_none.
    c.run_other.ensures.unread (no_which c.args.words.now reads_none) (no_audit c.args.words.now reads_none)

pub returns-clause-named : goal.returns-clause-named
returns-clause-named g c =
    let left = g.S.Source.left in
    let faults = g.S.Source.faults in
    let kept = g.K.Sink.written in
    let r = c.run_other in
    let s = c.args.source.now in
    named g.W.World g.W.Disk.Disk g.W.Door.Door g.W.Door.Link.Link c.args.world.now r.new.world (left s) (left r.new.source) (faults s) (faults r.new.source) (kept c.args.sink.now) (kept r.new.sink) r.result.status
    (record { doors = r.result.doors; disk = r.result.disk; other = r.result.other; last = r.result.last; past = r.result.past }) (words_of c.args.words.now) r.ensures.runs
