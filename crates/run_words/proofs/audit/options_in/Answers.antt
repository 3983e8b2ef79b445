use Rattle.std.proofs.Common.{◌≡◌, ◌∙◌, ap, refl, sym, subst, true, ℕ, List, map, Bor}
use Rattle.std.specs.Prelude.{MatchResult, Option, Some, None, option_and_then}
use Rattle.clap.specs.Words.{App, Text, app_of, is_simple_and_free}
use Rattle.run_words.specs.Commands.{given_by}
use Rattle.run_words.specs.Audit.{audit_app, audit_of}
use Rattle.run_words.specs.declared.fault.WordsFault.TheVariants.{Usage}
use Rattle.run_words.specs.declared.audit.AuditOptions.{AuditOptions}
use Rattle.run_words.proofs.audit.options_in.Goals as goal

-- The command is simple by computing.
is_plain : is_simple_and_free audit_app ≡ true
is_plain = refl

pub match_words-requires : goal.match_words-requires
match_words-requires c =
    let app : app_of c.in_ok-command.command ≡ audit_app = c.in_ok-command.ensures in
    record { simple = ap is_simple_and_free app ∙ is_plain }

pub returns-in-Ok : goal.returns-in-Ok
returns-in-Ok c =
    let words : List Text = map (λ (s : Bor (List ℕ)). s.now) c.args.words.now in
    let read = ap (λ (a : App). option_and_then audit_of (given_by a words)) (sym c.in_ok-command.ensures) ∙ ap (option_and_then audit_of) c.in-Ok.ensures in
    subst (λ (x : Option AuditOptions). MatchResult c.options-given.result (λ o. x ≡ Some o) (λ e. e ≡ Usage → x ≡ None)) (sym read) c.options-given.ensures

pub returns-in-Err : goal.returns-in-Err
returns-in-Err c = λ usage.
    let words : List Text = map (λ (s : Bor (List ℕ)). s.now) c.args.words.now in
    ap (λ (a : App). option_and_then audit_of (given_by a words)) (sym c.in_ok-command.ensures) ∙ ap (option_and_then audit_of) (c.in-Err.ensures usage)
