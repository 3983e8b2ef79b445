use Rattle.std.proofs.Common.{◌≡◌, ◌∙◌, List, ap, map, subst, sym, ℕ, Bor}
use Rattle.std.specs.Prelude.{MatchResult, Option, None, Some}
use Rattle.std.proofs.lemmas.Bool.{cond-true}
use Rattle.run_words.specs.Which.{which_given, which_of}
use Rattle.run_words.specs.declared.fault.WordsFault.TheVariants.{Usage}
use Rattle.run_words.proofs.which.which_words.Goals as goal

pub returns : goal.returns
returns c =
    let same = ap (map (λ (s : Bor (List ℕ)). s.now)) c.as_slice.ensures.value ∙ c.in_ok-texts.ensures.0 in
    let read : which_given c.args.words.now ≡ which_of (map (λ (s : Bor (List ℕ)). s.now) c.as_slice.result.now) = cond-true _ _ _ c.in_ok-texts.ensures.1 ∙ ap which_of (sym same) in
    subst (λ (x : Option (Unit {0})). MatchResult c.words_in.result (λ _. x ≡ Some tt) (λ e. e ≡ Usage → x ≡ None)) (sym read) c.words_in.ensures
