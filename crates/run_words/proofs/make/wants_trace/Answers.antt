use Rattle.std.proofs.Common.{◌∙◌, ap}
use Rattle.std.specs.Prelude.{Some, codes}
use Rattle.clap.specs.Words.{found_of}
use Rattle.clap.proofs.WalkLemmas.{first_value-rows}
use Rattle.run_words.specs.Make.{wants_trace}
use Rattle.run_words.proofs.make.wants_trace.Goals as goal

pub returns-in-None : goal.returns-in-None
returns-in-None c = ap wants_trace (c.in-None.ensures ∙ first_value-rows (found_of c.args.matches.now) (codes "trace"))

pub returns-in-Some : goal.returns-in-Some
returns-in-Some c =
    c.asks_trace.ensures ∙ ap (λ word. wants_trace (Some word)) c.as_bytes.ensures.value ∙ ap wants_trace (c.in-Some.ensures ∙ first_value-rows (found_of c.args.matches.now) (codes "trace"))
