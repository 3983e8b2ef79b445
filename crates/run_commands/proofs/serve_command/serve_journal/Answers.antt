use Rattle.std.proofs.Common.{◌∙◌, ℕ, subst, sym}
use Rattle.rtb_io.specs.declared.status.Status.TheVariants as status
use Rattle.run_commands.specs.Endings.{EndsBy}
use Rattle.run_commands.specs.Serve.{no_disk}
use Rattle.run_commands.proofs.Telling.{rises_by_code}
use Rattle.run_commands.proofs.serve_command.serve_journal.Goals as goal

pub returns-in-Ok-clause-serves : goal.returns-in-Ok-clause-serves
returns-in-Ok-clause-serves g c =
    c.serve_disk.ensures.serves c.args.world.now c.in-Ok.ensures

pub returns-in-Err-clause-serves : goal.returns-in-Err-clause-serves
returns-in-Err-clause-serves g c =
    let out = c.without_world.ensures in
    no_disk c.in-Err.ensures out.doors out.disk out.past
    (subst (λ (code : ℕ). EndsBy status.NoDisk (g.K.Sink.written c.args.sink.now) (g.K.Sink.written c.end_with-status.new.sink) code) (sym (out.status ∙ c.code.ensures)) c.end_with-status.ensures.ends)

pub returns-in-Err-clause-cause : goal.returns-in-Err-clause-cause
returns-in-Err-clause-cause g c = rises_by_code c.end_with-status.result _ _ _ (c.without_world.ensures.status ∙ c.code.ensures) c.end_with-status.ensures.cause
