use Rattle.std.proofs.Common.{◌≡◌, ◌∙◌, IfOk, List, Option, ℕ, subst}
use Rattle.clap.specs.Words.{found_of}
use Rattle.clap.proofs.WalkLemmas.{first_value-rows}
use Rattle.run_words.proofs.matched.given_text.Goals as goal

pub returns-in-Some : goal.returns-in-Some
returns-in-Some c = subst (λ (o : Option (List ℕ)). IfOk c.some_text.result (λ t. t ≡ o)) (c.in-Some.ensures ∙ first_value-rows (found_of c.args.matches.now) c.args.name.now) c.some_text.ensures

pub returns-in-None : goal.returns-in-None
returns-in-None c = c.in-None.ensures ∙ first_value-rows (found_of c.args.matches.now) c.args.name.now
