use Rattle.std.proofs.Common.{◌≡◌, ◌∙◌, Bor, List, ap, map, subst, sym, ℕ}
use Rattle.std.specs.Prelude.{MatchResult, Option, None, Some, option_and_then}
use Rattle.std.proofs.lemmas.Bool.{cond-true}
use Rattle.run_words.specs.Commands.{given_by}
use Rattle.run_words.specs.Make.{make_app, make_of, make_options}
use Rattle.run_words.specs.declared.fault.WordsFault.TheVariants.{Usage}
use Rattle.run_words.specs.declared.make.MakeOptions.{MakeOptions}
use Rattle.run_words.proofs.make.make_options.Goals as goal

abbrev given : List (List ℕ) → Option MakeOptions
given words = option_and_then make_of (given_by make_app words)

pub returns : goal.returns
returns c =
    let same = ap (map (λ (s : Bor (List ℕ)). s.now)) c.as_slice.ensures.value ∙ c.in_ok-texts.ensures.0 in
    let read : make_options c.args.words.now ≡ given (map (λ (s : Bor (List ℕ)). s.now) c.as_slice.result.now) = cond-true _ _ _ c.in_ok-texts.ensures.1 ∙ ap given (sym same) in
    subst (λ (x : Option MakeOptions). MatchResult c.options_in.result (λ o. x ≡ Some o) (λ e. e ≡ Usage → x ≡ None)) (sym read) c.options_in.ensures
