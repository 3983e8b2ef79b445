use Rattle.std.proofs.Common.{rules, false, ◌≡◌, ◌∙◌, ◌++◌, [], ◌∷◌, Result, Ok, Err, ap, map, refl, sym}
use Rattle.std.specs.Prelude.{MatchResult}
use Rattle.std.specs.List.{list_all}
use Rattle.std.specs.Result.{IsErr}
use Rattle.std.specs.Str.{is_utf8}
use Rattle.std.proofs.lemmas.Bool.{false≢true}
use Rattle.std.proofs.lemmas.List.{take_all}
use Rattle.std.proofs.lemmas.List.Folds.{list_all_at}
use Rattle.run_words.proofs.Utf8.{each_text, one_text}
use Rattle.run_words.proofs.texts.texts.Goals as goal

-- What holds of each error holds of the result of a `?`.
fails : {T E : Type 0} (r : Result T E) (P : T → Type 0) (Q : E → Type 0) → IsErr r → ((e : E) → Q e) → MatchResult r P Q
fails (Ok x) P Q failed each = absurd (false≢true failed)
fails (Err e) P Q failed each = each e

pub loop-word-init : goal.loop-word-init
loop-word-init c = (ap (map (λ s. s.now)) c.in_ok-texts.ensures.items, refl)

pub loop-word-preserved : goal.loop-word-preserved
loop-word-preserved c =
    let words = c.args.words.now in
    let i = c.loop-word.word-index in
    let pushed : c.push.new.self.items ≡ c.loop-word.texts.items ++ c.in_ok-text.text ∷ [] = search rules in (
      ap (map (λ s. s.now)) pushed ∙ one_text c.loop-word.texts.items words i _ c.word-item.result c.in_ok-text.text c.loop-word-test.true c.loop-word.invariant.0 c.in_ok-text.ensures.0 c.word-item.is,
      each_text words i _ c.word-item.result c.loop-word-test.true c.loop-word.invariant.1 c.in_ok-text.ensures.1 c.word-item.is,
    )

pub returns-in_err-text : goal.returns-in_err-text
returns-in_err-text c =
    let words = c.args.words.now in
    let none : list_all is_utf8 words ≡ false = list_all_at is_utf8 words c.loop-word.word-index c.word-item.result c.loop-word-test.true (ap is_utf8 (sym c.word-item.is) ∙ c.in_err-text.ensures.1) in
    fails c.from_residual-in_err-text.result _ _ c.from_residual-in_err-text.ensures.0 (λ e usage. none)

pub returns-then-is_err : goal.returns-then-is_err
returns-then-is_err c = λ usage. let wrong : ⊥ = cc in absurd wrong

pub returns : goal.returns
returns c =
    let words = c.args.words.now in
    let whole = take_all c.loop-word.word-index words c.loop-word-test.false in
    (c.loop-word.invariant.0 ∙ whole, ap (list_all is_utf8) (sym whole) ∙ c.loop-word.invariant.1)
