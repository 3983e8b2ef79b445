use Rattle.std.proofs.Common.{◌≡◌, ℕ, true, false, refl, sym, subst, Result, Ok, Err, arith}
use Rattle.std.specs.Prelude.{OnOk, OnErr}
use Rattle.std.specs.Result.{is_err}
use Rattle.std.proofs.lemmas.Bool.{false≢true, ne_eqb, or_from}
use Rattle.rtb_base.specs.Faults.{CountsErrors, RisesOnlyWhere, RoseAtMost}
use Rattle.session.specs.Talk.{IsText}
use Rattle.session.proofs.turns.take_turn.Goals as goal

-- What is known of a result that is no error, and of one that is.
on_ok : {T E : Type 0} (r : Result T E) (A : Type 0) → OnOk r A → false ≡ is_err r → A
on_ok (Ok x) A known e = known
on_ok (Err x) A known e = absurd (false≢true e)

on_err : {T E : Type 0} (r : Result T E) (A : Type 0) → OnErr r A → true ≡ is_err r → A
on_err (Ok x) A known e = absurd (false≢true (sym e))
on_err (Err x) A known e = known

as_before : {T E : Type 0} (r : Result T E) (before now : ℕ) → CountsErrors before now r → false ≡ is_err r → now ≡ before
as_before (Ok x) before now known e = known
as_before (Err x) before now known e = absurd (false≢true e)

quiet : (Failed : Type 0) (before now : ℕ) → (Failed → ⊥) → now ≡ before → RisesOnlyWhere Failed before now
quiet Failed before now other e = (omega (arith, e), λ failed. absurd (other failed), λ _. e)

at_most_once : (before now : ℕ) → now ≡ before → RoseAtMost 1 before now
at_most_once before now e = (omega (arith, e), omega (arith, e))

failed : {T E : Type 0} (r : Result T E) (Failed : Type 0) (before now : ℕ) → Failed → CountsErrors before now r → true ≡ is_err r → RisesOnlyWhere Failed before now
failed (Ok x) Failed before now is known e = absurd (false≢true (sym e))
failed (Err x) Failed before now is known e = (known.0, λ _. known.1, λ other. absurd (other is))

failed_once : {T E : Type 0} (r : Result T E) (before now : ℕ) → CountsErrors before now r → true ≡ is_err r → RoseAtMost 1 before now
failed_once (Ok x) before now known e = absurd (false≢true (sym e))
failed_once (Err x) before now known e = (known.0, known.2)

pub returns-then-is_err-clause-turn : goal.returns-then-is_err-clause-turn
returns-then-is_err-clause-turn g c =
    let told = on_err c.reply-sent.result _ c.reply-sent.ensures.err c.if-is_err.ensures.value in
    record {
      given = c.answer-given.result;
      text = told.0;
      answers = c.answer-given.ensures.meaning;
      text_is = subst (λ closes. IsText c.answer-given.result closes told.0) c.is_last.ensures told.1;
      ends_so = told.2;
    }

pub returns-then-is_err-clause-cause : goal.returns-then-is_err-clause-cause
returns-then-is_err-clause-cause g c = failed c.reply-sent.result _ _ _ refl c.reply-sent.ensures.cause c.if-is_err.ensures.value

pub returns-then-is_err-clause-once : goal.returns-then-is_err-clause-once
returns-then-is_err-clause-once g c = failed_once c.reply-sent.result _ _ c.reply-sent.ensures.cause c.if-is_err.ensures.value

pub returns-then-message-clause-turn : goal.returns-then-message-clause-turn
returns-then-message-clause-turn g c =
    let told = on_ok c.reply-sent.result _ c.reply-sent.ensures.ok c.if-is_err.ensures.value in
    record {
      given = c.answer-given.result;
      text = told.0;
      answers = c.answer-given.ensures.meaning;
      text_is = subst (λ closes. IsText c.answer-given.result closes told.0) c.is_last.ensures told.1;
      ends_so = (c.if-message.true, told.2);
    }

pub returns-then-message-clause-cause : goal.returns-then-message-clause-cause
returns-then-message-clause-cause g c = quiet _ _ _ (λ e. cc) (as_before c.reply-sent.result _ _ c.reply-sent.ensures.cause c.if-is_err.ensures.value)

pub returns-then-message-clause-once : goal.returns-then-message-clause-once
returns-then-message-clause-once g c = at_most_once _ _ (as_before c.reply-sent.result _ _ c.reply-sent.ensures.cause c.if-is_err.ensures.value)

pub returns-then-number-eq-MOST_MESSAGES-clause-turn : goal.returns-then-number-eq-MOST_MESSAGES-clause-turn
returns-then-number-eq-MOST_MESSAGES-clause-turn g c =
    let told = on_ok c.reply-sent.result _ c.reply-sent.ensures.ok c.if-is_err.ensures.value in
    record {
      given = c.answer-given.result;
      text = told.0;
      answers = c.answer-given.ensures.meaning;
      text_is = subst (λ closes. IsText c.answer-given.result closes told.0) c.is_last.ensures told.1;
      ends_so = (c.if-message.false, c.if-number-eq-MOST_MESSAGES.true, told.2);
    }

pub returns-then-number-eq-MOST_MESSAGES-clause-cause : goal.returns-then-number-eq-MOST_MESSAGES-clause-cause
returns-then-number-eq-MOST_MESSAGES-clause-cause g c = quiet _ _ _ (λ e. cc) (as_before c.reply-sent.result _ _ c.reply-sent.ensures.cause c.if-is_err.ensures.value)

pub returns-then-number-eq-MOST_MESSAGES-clause-once : goal.returns-then-number-eq-MOST_MESSAGES-clause-once
returns-then-number-eq-MOST_MESSAGES-clause-once g c = at_most_once _ _ (as_before c.reply-sent.result _ _ c.reply-sent.ensures.cause c.if-is_err.ensures.value)

pub returns-clause-turn : goal.returns-clause-turn
returns-clause-turn g c =
    let told = on_ok c.reply-sent.result _ c.reply-sent.ensures.ok c.if-is_err.ensures.value in
    record {
      given = c.answer-given.result;
      text = told.0;
      answers = c.answer-given.ensures.meaning;
      text_is = subst (λ closes. IsText c.answer-given.result closes told.0) c.is_last.ensures told.1;
      ends_so = (or_from _ _ c.if-message.false (ne_eqb _ _ c.if-number-eq-MOST_MESSAGES.false), told.2);
    }

pub returns-clause-cause : goal.returns-clause-cause
returns-clause-cause g c = quiet _ _ _ (λ e. cc) (as_before c.reply-sent.result _ _ c.reply-sent.ensures.cause c.if-is_err.ensures.value)

pub returns-clause-once : goal.returns-clause-once
returns-clause-once g c = at_most_once _ _ (as_before c.reply-sent.result _ _ c.reply-sent.ensures.cause c.if-is_err.ensures.value)
