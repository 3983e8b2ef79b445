use Rattle.std.proofs.Common.{◌≡◌, false, refl, ap, subst}
use Rattle.std.specs.Prelude.{Option, Some, None, IsSome, Err, is_some}
use Rattle.std.proofs.lemmas.Bool.{false≢true}
use Rattle.exchange_run.specs.Answer.{Replies, replied, starved, unnamed, unread}
use Rattle.exchange_run.specs.Words.{campaigns_of, command_of}
use Rattle.exchange_run.proofs.try_command.reply_or_status.Goals as goal

none_of : {T : Type 0} (o : Option T) → false ≡ is_some o → o ≡ None
none_of None e = refl
none_of (Some x) e = absurd (false≢true e)

pub returns-in-None-clause-stopped : goal.returns-in-None-clause-stopped
returns-in-None-clause-stopped g c = unnamed (none_of (command_of c.args.words.now) c.in-None.ensures.command) refl refl refl

pub returns-in-Ok-reply_line-clause-replied : goal.returns-in-Ok-reply_line-clause-replied
returns-in-Ok-reply_line-clause-replied g c =
    let reply = c.in-Ok-reply_line.reply in
    let named : campaigns_of c.in-Some.campaigns.now ≡ command_of c.args.words.now = c.in-Some.ensures.words.0 in
    replied c.in-Ok.bytes
    (record { came = c.in-Ok.ensures.bytes; whole = c.in-Ok.ensures.end })
    (c.in-Ok.ensures.cause.2 (λ e. cc))
    (subst (λ bs. Replies (command_of c.args.words.now) bs reply.status reply.line) c.as_bytes.ensures.value
    (subst (λ cs. Replies cs c.as_bytes.result.now reply.status reply.line) named c.in-Ok-reply_line.ensures.replies))

pub returns-in-Ok-clause-stopped : goal.returns-in-Ok-clause-stopped
returns-in-Ok-clause-stopped g c =
    starved (subst IsSome c.in-Some.ensures.words.0 c.in-Some.ensures.words.1) (c.in-Ok.ensures.cause.2 (λ e. cc)) refl refl

pub returns-in-Err-Failed-clause-stopped : goal.returns-in-Err-Failed-clause-stopped
returns-in-Err-Failed-clause-stopped g c =
    unread (subst IsSome c.in-Some.ensures.words.0 c.in-Some.ensures.words.1) (c.in-Err-Failed.ensures.cause.1 (ap Err c.in-Err-Failed.field-0-is)) refl refl
