use Rattle.std.proofs.Common.{◌∙◌, refl, subst, List, ℕ}
use Rattle.std.specs.Io.KnownBytes.{Appends}
use Rattle.rtb_io.specs.Fronts.{AppendsFront}
use Rattle.run_commands.specs.Serve.{served, unannounced}
use Rattle.run_commands.proofs.Serving.{is_idle}
use Rattle.run_commands.proofs.serve_command.announce.Goals as goal

pub returns-in-Ok-clause-announces : goal.returns-in-Ok-clause-announces
returns-in-Ok-clause-announces g c = λ disk begins.
    let line = c.as_bytes.ensures.value ∙ c.requires.line in
    served (c.serve_all.ensures.run disk (g.K.Sink.written c.args.sink.now) begins
    (subst (λ (text : List ℕ). Appends (g.K.Sink.written c.args.sink.now) (g.K.Sink.written c.write_all.new.sink) text) line c.in-Ok.ensures.ok))

pub returns-in-Err-clause-announces : goal.returns-in-Err-clause-announces
returns-in-Err-clause-announces g c = λ disk begins.
    let line = c.as_bytes.ensures.value ∙ c.requires.line in
    let h = c.close_idle-disk.ensures in
    let past = c.close_idle-disk.result.1 in
    unannounced
    (is_idle g.D.Disk g.G.Door g.G.Link.Link c.args.tools.now.options.now c.args.tools.now.keys.now disk c.close_idle-disk.result.0 c.args.seat.origin past begins h.origin h.untouched h.legal h.budgets h.order h.crash h.since h.faults h.failed)
    refl refl
    (subst (λ (text : List ℕ). AppendsFront (g.K.Sink.written c.args.sink.now) (g.K.Sink.written c.write_all.new.sink) text) line c.in-Err.ensures.err)
