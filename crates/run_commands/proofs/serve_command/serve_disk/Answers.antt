use Rattle.std.proofs.Common.{ℕ, subst, sym}
use Rattle.run_commands.specs.Journals.{EndsAt}
use Rattle.run_commands.specs.Serve.{not_opened}
use Rattle.run_commands.proofs.Telling.{rises_by_code}
use Rattle.run_commands.proofs.serve_command.serve_disk.Goals as goal

pub returns-in-Ok-clause-serves : goal.returns-in-Ok-clause-serves
returns-in-Ok-clause-serves g c = λ before gives. c.serve_exchange.ensures.serves before c.args.disk gives c.in-Ok.ensures.origin

pub returns-in-Err-clause-serves : goal.returns-in-Err-clause-serves
returns-in-Err-clause-serves g c = λ before gives.
    let out = c.with_disk.ensures in
    not_opened c.args.disk c.in-Err.disk gives c.in-Err.fault c.in-Err.ensures.refused out.doors out.disk out.past
    (subst (λ (code : ℕ). EndsAt c.in-Err.fault (g.K.Sink.written c.args.sink.now) (g.K.Sink.written c.end_at-status.new.sink) code) (sym out.status) c.end_at-status.ensures.ends)

pub returns-in-Err-clause-cause : goal.returns-in-Err-clause-cause
returns-in-Err-clause-cause g c = rises_by_code c.end_at-status.result _ _ _ c.with_disk.ensures.status c.end_at-status.ensures.cause
