use Rattle.std.proofs.Common.{◌∙◌, Err, ap, inl, inr, subst, sym}
use Rattle.std.specs.Io.KnownBytes.{Appends}
use Rattle.rtb_io.specs.Fronts.{AppendsFront}
use Rattle.rtb_io.specs.Statuses.{code_of}
use Rattle.run_commands.specs.Endings.{line_of}
use Rattle.exchange_run.proofs.Endings.{no_input, no_usage, not_read, not_written, other, usage}
use Rattle.exchange_run.proofs.try_command.try_run.Goals as goal

pub returns-in-Ok-clause-told : goal.returns-in-Ok-clause-told
returns-in-Ok-clause-told g c = λ other.
    let told = c.tell.ensures.told (λ e. other (c.code.ensures ∙ ap code_of e)) in
    record {
      end = c.in-Ok.reply.status;
      text = c.in-Ok.reply.line;
      outcome = c.in-Ok.ensures.replied;
      code_is = c.code.ensures ∙ ap code_of told.0;
      went = subst (λ t. Appends (g.K.Sink.written c.args.sink.now) (g.K.Sink.written c.tell.new.sink) t) c.as_bytes.ensures.value told.1;
    }

pub returns-in-Ok-clause-half_told : goal.returns-in-Ok-clause-half_told
returns-in-Ok-clause-half_told g c = λ failed.
    record {
      end = c.in-Ok.reply.status;
      text = c.in-Ok.reply.line;
      outcome = c.in-Ok.ensures.replied;
      went = subst (λ t. AppendsFront (g.K.Sink.written c.args.sink.now) (g.K.Sink.written c.tell.new.sink) t) c.as_bytes.ensures.value
          (c.tell.ensures.half_told (not_written c.tell.result (sym c.code.ensures ∙ failed)));
    }

pub returns-in-Err-clause-told : goal.returns-in-Err-clause-told
returns-in-Err-clause-told g c = λ other.
    let told = c.end_with.ensures.told (λ e. other (c.code-in-Err.ensures ∙ ap code_of e)) in
    record {
      end = c.in-Err.status;
      text = line_of c.in-Err.status;
      outcome = c.in-Err.ensures.stopped;
      code_is = c.code-in-Err.ensures ∙ ap code_of told.0;
      went = told.1;
    }

pub returns-in-Err-clause-half_told : goal.returns-in-Err-clause-half_told
returns-in-Err-clause-half_told g c = λ failed.
    record {
      end = c.in-Err.status;
      text = line_of c.in-Err.status;
      outcome = c.in-Err.ensures.stopped;
      went = c.end_with.ensures.half_told (not_written c.end_with.result (sym c.code-in-Err.ensures ∙ failed));
    }

pub returns-in-Ok-clause-named : goal.returns-in-Ok-clause-named
returns-in-Ok-clause-named g c = λ e.
    let is = usage c.tell.result (sym c.code.ensures ∙ e) in
    absurd (no_usage c.tell.result c.in-Ok.reply.status c.in-Ok.ensures.ends (c.tell.ensures.told (other c.tell.result (inl is))).0 is)

pub returns-in-Ok-clause-not_read : goal.returns-in-Ok-clause-not_read
returns-in-Ok-clause-not_read g c = λ e.
    let is = not_read c.tell.result (sym c.code.ensures ∙ e) in
    absurd (no_input c.tell.result c.in-Ok.reply.status c.in-Ok.ensures.ends (c.tell.ensures.told (other c.tell.result (inr is))).0 is)

pub returns-in-Err-clause-named : goal.returns-in-Err-clause-named
returns-in-Err-clause-named g c = λ e.
    let is = usage c.end_with.result (sym c.code-in-Err.ensures ∙ e) in
    c.in-Err.ensures.named (ap Err (sym (c.end_with.ensures.told (other c.end_with.result (inl is))).0 ∙ is))

pub returns-in-Err-clause-not_read : goal.returns-in-Err-clause-not_read
returns-in-Err-clause-not_read g c = λ e.
    let is = not_read c.end_with.result (sym c.code-in-Err.ensures ∙ e) in
    c.in-Err.ensures.not_read (ap Err (sym (c.end_with.ensures.told (other c.end_with.result (inr is))).0 ∙ is))
