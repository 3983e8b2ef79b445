use Rattle.std.proofs.Common.{◌≡◌, ◌∙◌, ap, refl, sym, true, ℕ, List, map, Bor}
use Rattle.std.specs.Prelude.{Option, Some, None, option_map}
use Rattle.clap.specs.Words.{App, Row, Text, app_of, is_simple_and_free}
use Rattle.run_words.specs.Commands.{given_by}
use Rattle.run_words.specs.Which.{which_app}
use Rattle.run_words.proofs.which.words_in.Goals as goal

-- The command is simple by computing.
is_plain : is_simple_and_free which_app ≡ true
is_plain = refl

pub match_words-requires : goal.match_words-requires
match_words-requires c = record { simple = ap is_simple_and_free c.in_ok-command.ensures ∙ is_plain }

abbrev nothing : Option (List Row) → Option (Unit {0})
nothing given = option_map (λ (rows : List Row). tt) given

pub returns-in-Ok : goal.returns-in-Ok
returns-in-Ok c =
    let words : List Text = map (λ (s : Bor (List ℕ)). s.now) c.args.words.now in
    ap (λ (a : App). nothing (given_by a words)) (sym c.in_ok-command.ensures) ∙ ap nothing c.in-Ok.ensures

pub returns-in-Err : goal.returns-in-Err
returns-in-Err c = λ usage.
    let words : List Text = map (λ (s : Bor (List ℕ)). s.now) c.args.words.now in
    ap (λ (a : App). nothing (given_by a words)) (sym c.in_ok-command.ensures) ∙ ap nothing (c.in-Err.ensures usage)
