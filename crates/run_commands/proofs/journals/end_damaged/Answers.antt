use Rattle.std.proofs.Common.{◌∙◌, inl, inr, subst}
use Rattle.rtb_io.specs.Statuses.{code_of}
use Rattle.rtb_io.specs.declared.status.Status.TheVariants as status
use Rattle.run_commands.specs.Endings.{Ends}
use Rattle.run_commands.proofs.journals.end_damaged.Goals as goal

pub returns-in-Ok-clause-ends : goal.returns-in-Ok-clause-ends
returns-in-Ok-clause-ends g c =
    inl (subst (λ line. Ends status.Damaged line (g.K.Sink.written c.args.sink.now) (g.K.Sink.written c.tell.new.sink) (code_of c.tell.result)) (c.as_bytes.ensures.value ∙ c.in-Ok.ensures) c.tell.ensures.ends)

pub returns-in-Ok-clause-cause : goal.returns-in-Ok-clause-cause
returns-in-Ok-clause-cause g c = c.tell.ensures.cause

pub returns-in-Err-clause-ends : goal.returns-in-Err-clause-ends
returns-in-Err-clause-ends g c = inr c.end_with.ensures.ends

pub returns-in-Err-clause-cause : goal.returns-in-Err-clause-cause
returns-in-Err-clause-cause g c = c.end_with.ensures.cause
