-- A conversation that goes on by one message, and one whose bytes go on.
use Rattle.std.proofs.Common.{◌≡◌, ℕ, ◌+◌, ◌*◌, ◌≤◌, false, List, [], ◌∷◌, ◌++◌, length, drop, refl, sym, ap, subst, ◌∙◌, arith}
use Rattle.std.proofs.lemmas.Grind.{flat_map-append}
use Rattle.std.proofs.lemmas.List.{append-nil, drop-append-le}
use Rattle.http_wire.specs.declared.message.Message.{Message}
use Rattle.http_wire.specs.declared.message.Step.TheVariants.{Got}
use Rattle.http_wire.specs.Wire.{Decides}
use Rattle.http_wire.proofs.Openings.{decides_stays}
use Rattle.session.specs.declared.service.Given.{Given}
use Rattle.session.specs.Streams.{is_last}
use Rattle.session.specs.Talk.{Turn, GoesOn, IsText, Talks, texts, bodies}

pub goes_more : (n : ℕ) (turns : List Turn) (turn : Turn) (k : ℕ) → k ≡ n + length turns + 1 → GoesOn n turns → is_last k turn.message ≡ false → GoesOn n (turns ++ turn ∷ [])
goes_more n [] turn k e goes on = (ap (λ m. is_last m turn.message) (let z : n + 1 ≡ k = omega (arith, e) in z) ∙ on, tt)
goes_more n (first ∷ turns) turn k e goes on = (goes.0, goes_more (n + 1) turns turn k (omega (arith, e)) goes.1 on)

pub bodies_more : (turns : List Turn) (turn : Turn) → bodies (turns ++ turn ∷ []) ≡ bodies turns + length turn.message.body
bodies_more [] turn = omega arith
bodies_more (first ∷ turns) turn = omega (arith, bodies_more turns turn)

pub texts_more : (turns : List Turn) (turn : Turn) → texts (turns ++ turn ∷ []) ≡ texts turns ++ turn.text
texts_more turns turn = flat_map-append (λ (t : Turn). t.text) turns (turn ∷ []) ∙ ap (λ k. texts turns ++ k) (append-nil turn.text)

module _ {S : Type 0} (Answers : S → Message → Given → S → Type 0) where
  pub talks_on : (n : ℕ) (before : S) (bytes more : List ℕ) (turns : List Turn) (after : S) (rest : List ℕ) → Talks Answers n before bytes turns after rest → Talks Answers n before (bytes ++ more) turns after (rest ++ more)
  talks_on n before bytes more [] after rest (same, is) = (same, ap (λ k. k ++ more) is)
  talks_on n before bytes more (turn ∷ turns) after rest (mid, used, decides, answers, text, talks) = (
    mid,
    used,
    decides_stays bytes more (Got turn.message used) decides,
    answers,
    text,
    subst (λ k. Talks Answers (n + 1) mid k turns after (rest ++ more)) (sym (drop-append-le used bytes more decides.3)) (talks_on (n + 1) mid (drop used bytes) more turns after rest talks),
  )

  pub talks_more : (n : ℕ) (before : S) (bytes : List ℕ) (turns : List Turn) (mid : S) (rest : List ℕ) (turn : Turn) (after : S) (used k : ℕ) → k ≡ n + length turns + 1
      → Talks Answers n before bytes turns mid rest → Decides rest (Got turn.message used) → Answers mid turn.message turn.given after → IsText turn.given (is_last k turn.message) turn.text
      → Talks Answers n before bytes (turns ++ turn ∷ []) after (drop used rest)
  talks_more n before bytes [] mid rest turn after used k e (same, is) decides answers text =
      let number : k ≡ n + 1 = omega (arith, e) in (
        after,
        used,
        subst (λ b. Decides b (Got turn.message used)) is decides,
        subst (λ s. Answers s turn.message turn.given after) same answers,
        subst (λ m. IsText turn.given (is_last m turn.message) turn.text) number text,
        (refl, ap (drop used) is),
      )
  talks_more n before bytes (first ∷ turns) mid rest turn after used k e (next, size, d, a, t, talks) decides answers text =
      (next, size, d, a, t, talks_more (n + 1) next (drop size bytes) turns mid rest turn after used k (omega (arith, e)) talks decides answers text)

-- what a message costs is paid by its bytes outside the body, and two
pub cost_more : (steps t total came held rest body bodies turns used : ℕ) → steps + bodies + held ≤ came + 2 * turns → t + body ≤ used + 2 → held ≡ used + rest
    → (steps + t) + (bodies + body) + rest ≤ came + 2 * (turns + 1)
cost_more steps t total came held rest body bodies turns used so_far one split = omega arith
