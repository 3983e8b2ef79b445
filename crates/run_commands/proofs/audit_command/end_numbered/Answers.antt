use Rattle.std.proofs.Common.{inl, inr, subst}
use Rattle.rtb_io.specs.Statuses.{code_of}
use Rattle.run_commands.specs.Endings.{Ends}
use Rattle.run_commands.proofs.audit_command.end_numbered.Goals as goal

pub returns-in-Ok-clause-ends : goal.returns-in-Ok-clause-ends
returns-in-Ok-clause-ends g c = λ text is.
    let told = rw c.in-Ok.is at is in
    let line = subst (λ bytes. Ends c.args.status bytes (g.K.Sink.written c.args.sink.now) (g.K.Sink.written c.tell.new.sink) (code_of c.tell.result)) c.as_bytes.ensures.value c.tell.ensures.ends in
    inl (subst (λ bytes. Ends c.args.status bytes (g.K.Sink.written c.args.sink.now) (g.K.Sink.written c.tell.new.sink) (code_of c.tell.result)) told line)

pub returns-in-Err-clause-ends : goal.returns-in-Err-clause-ends
returns-in-Err-clause-ends g c = λ text is. inr c.end_with.ensures.ends
