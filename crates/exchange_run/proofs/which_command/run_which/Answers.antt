use Rattle.std.proofs.Common.{◌≡◌, subst, sym}
use Rattle.rtb_io.specs.Statuses.{code_of}
use Rattle.run_commands.specs.Endings.{Ends, EndsBy, line_of}
use Rattle.exchange_run.specs.Plan.{status_of}
use Rattle.exchange_run.proofs.which_command.run_which.Goals as goal

pub returns-in-Ok-clause-plans : goal.returns-in-Ok-clause-plans
returns-in-Ok-clause-plans g c =
    let old = g.K.Sink.written c.args.sink.now in
    let new = g.K.Sink.written c.tell.new.sink in
    let told = subst (λ s. Ends s c.as_bytes.result.now old new (code_of c.tell.result)) c.status_of.ensures.value c.tell.ensures.ends in
    record {
      end = status_of c.in-Ok.line.refused;
      text = c.in-Ok.line.text;
      plan = c.in-Ok.ensures.answered;
      went = subst (λ code. Ends (status_of c.in-Ok.line.refused) c.in-Ok.line.text old new code) (sym c.code.ensures)
          (subst (λ t. Ends (status_of c.in-Ok.line.refused) t old new (code_of c.tell.result)) c.as_bytes.ensures.value told);
    }

pub returns-in-Err-clause-plans : goal.returns-in-Err-clause-plans
returns-in-Err-clause-plans g c = record {
  end = c.in-Err.status;
  text = line_of c.in-Err.status;
  plan = c.in-Err.ensures.stopped;
  went = subst (λ code. EndsBy c.in-Err.status (g.K.Sink.written c.args.sink.now) (g.K.Sink.written c.end_with.new.sink) code) (sym c.code-in-Err.ensures) c.end_with.ensures.ends;
}
