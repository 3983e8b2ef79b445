use Rattle.std.proofs.Common.{◌∙◌, ℕ, refl, subst, sym}
use Rattle.rtb_io.specs.declared.status.Status.TheVariants as status
use Rattle.run_commands.specs.Audit.{keyed, no_key}
use Rattle.run_commands.specs.Endings.{EndsBy}
use Rattle.run_commands.proofs.Telling.{rises_by_code}
use Rattle.run_commands.proofs.audit_command.audit.Goals as goal

pub returns-in-Ok-clause-audits : goal.returns-in-Ok-clause-audits
returns-in-Ok-clause-audits g c = keyed c.in-Ok.keys c.read_keys.new.world c.in-Ok.ensures c.audit_journal-outcome.ensures.audits

pub returns-in-Err-clause-audits : goal.returns-in-Err-clause-audits
returns-in-Err-clause-audits g c =
    let out = c.without_world.ensures in
    no_key c.in-Err.ensures refl refl out.disk
    (subst (λ (code : ℕ). EndsBy status.NoKey (g.K.Sink.written c.args.sink.now) (g.K.Sink.written c.end_with-status.new.sink) code) (sym (out.status ∙ c.code.ensures)) c.end_with-status.ensures.ends)

pub returns-in-Err-clause-cause : goal.returns-in-Err-clause-cause
returns-in-Err-clause-cause g c = rises_by_code c.end_with-status.result _ _ _ (c.without_world.ensures.status ∙ c.code.ensures) c.end_with-status.ensures.cause
