use Rattle.std.proofs.Common.{◌∙◌, ℕ, refl, subst, sym}
use Rattle.rtb_io.specs.declared.status.Status.TheVariants as status
use Rattle.run_commands.specs.Endings.{EndsBy}
use Rattle.run_commands.specs.Serve.{starved}
use Rattle.run_commands.proofs.Telling.{rises_by_code}
use Rattle.run_commands.proofs.serve_command.serve.Goals as goal

pub returns-in-Ok-clause-serves : goal.returns-in-Ok-clause-serves
returns-in-Ok-clause-serves g c = c.serve_keys-outcome.ensures.serves

pub returns-in-Err-clause-serves : goal.returns-in-Err-clause-serves
returns-in-Err-clause-serves g c =
    let out = c.without_world.ensures in
    starved refl out.doors out.disk out.past
    (subst (λ (code : ℕ). EndsBy status.Memory (g.K.Sink.written c.args.sink.now) (g.K.Sink.written c.end_with.new.sink) code) (sym (out.status ∙ c.code.ensures)) c.end_with.ensures.ends)

pub returns-in-Err-clause-cause : goal.returns-in-Err-clause-cause
returns-in-Err-clause-cause g c = rises_by_code c.end_with.result _ _ _ (c.without_world.ensures.status ∙ c.code.ensures) c.end_with.ensures.cause
