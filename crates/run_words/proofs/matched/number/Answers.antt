use Rattle.std.proofs.Common.{◌∙◌, [], ℕ, List, Option, ap}
use Rattle.std.specs.Prelude.{unwrap_or}
use Rattle.clap.specs.Words.{found_of}
use Rattle.clap.proofs.WalkLemmas.{first_value-rows}
use Rattle.run_words.specs.Commands.{number_in}
use Rattle.run_words.proofs.matched.number.Goals as goal

abbrev told : Option (List ℕ) → Option ℕ
told o = number_in (unwrap_or o [])

pub returns-in-Some : goal.returns-in-Some
returns-in-Some c = c.parse_number.ensures ∙ ap told (c.in-Some.ensures ∙ first_value-rows (found_of c.args.matches.now) c.args.name.now)

pub returns-in-None : goal.returns-in-None
returns-in-None c = ap told (c.in-None.ensures ∙ first_value-rows (found_of c.args.matches.now) c.args.name.now)
