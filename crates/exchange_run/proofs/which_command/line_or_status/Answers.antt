use Rattle.std.proofs.Common.{ap, refl, subst}
use Rattle.std.specs.Prelude.{Err}
use Rattle.exchange_run.specs.Plan.{IsLine, answered, not_read, short_of_memory}
use Rattle.exchange_run.proofs.which_command.line_or_status.Goals as goal

pub returns-in-Ok-line_to-clause-answered : goal.returns-in-Ok-line_to-clause-answered
returns-in-Ok-line_to-clause-answered g c =
    let line = c.in-Ok-line_to.line in
    answered c.in-Ok.bytes (record { came = c.in-Ok.ensures.bytes; whole = c.in-Ok.ensures.end }) (c.in-Ok.ensures.cause.2 (λ e. cc)) line.refused
    (subst (λ bs. IsLine bs line.refused line.text) c.as_bytes.ensures.value c.in-Ok-line_to.ensures) refl

pub returns-in-Ok-clause-stopped : goal.returns-in-Ok-clause-stopped
returns-in-Ok-clause-stopped g c = short_of_memory (c.in-Ok.ensures.cause.2 (λ e. cc)) refl refl

pub returns-in-Err-Failed-clause-stopped : goal.returns-in-Err-Failed-clause-stopped
returns-in-Err-Failed-clause-stopped g c = not_read (c.in-Err-Failed.ensures.cause.1 (ap Err c.in-Err-Failed.field-0-is)) refl refl
