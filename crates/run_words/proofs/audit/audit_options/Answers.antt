use Rattle.std.proofs.Common.{◌≡◌, ◌∙◌, Bor, List, ap, map, subst, sym, ℕ}
use Rattle.std.specs.Prelude.{MatchResult, Option, None, Some, option_and_then}
use Rattle.std.proofs.lemmas.Bool.{cond-true}
use Rattle.run_words.specs.Commands.{given_by}
use Rattle.run_words.specs.Audit.{audit_app, audit_of, audit_options}
use Rattle.run_words.specs.declared.fault.WordsFault.TheVariants.{Usage}
use Rattle.run_words.specs.declared.audit.AuditOptions.{AuditOptions}
use Rattle.run_words.proofs.audit.audit_options.Goals as goal

abbrev given : List (List ℕ) → Option AuditOptions
given words = option_and_then audit_of (given_by audit_app words)

pub returns : goal.returns
returns c =
    let same = ap (map (λ (s : Bor (List ℕ)). s.now)) c.as_slice.ensures.value ∙ c.in_ok-texts.ensures.0 in
    let read : audit_options c.args.words.now ≡ given (map (λ (s : Bor (List ℕ)). s.now) c.as_slice.result.now) = cond-true _ _ _ c.in_ok-texts.ensures.1 ∙ ap given (sym same) in
    subst (λ (x : Option AuditOptions). MatchResult c.options_in.result (λ o. x ≡ Some o) (λ e. e ≡ Usage → x ≡ None)) (sym read) c.options_in.ensures
