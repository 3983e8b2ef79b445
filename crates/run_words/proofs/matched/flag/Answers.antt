use Rattle.std.proofs.Common.{◌∙◌, [], ℕ, List, Bool, Option, ap}
use Rattle.std.specs.Prelude.{codes, unwrap_or}
use Rattle.std.specs.Str.{bytes_eq}
use Rattle.clap.specs.Words.{found_of}
use Rattle.clap.proofs.WalkLemmas.{first_value-rows}
use Rattle.run_words.proofs.matched.flag.Goals as goal

abbrev told : Option (List ℕ) → Bool
told o = bytes_eq (unwrap_or o []) (codes "true")

pub returns-in-Some : goal.returns-in-Some
returns-in-Some c = c.is_true.ensures ∙ ap (λ text. bytes_eq text (codes "true")) c.as_bytes.ensures.value ∙ ap told (c.in-Some.ensures ∙ first_value-rows (found_of c.args.matches.now) c.args.name.now)

pub returns-in-None : goal.returns-in-None
returns-in-None c = ap told (c.in-None.ensures ∙ first_value-rows (found_of c.args.matches.now) c.args.name.now)
