use Rattle.std.proofs.Common.{rules}
use Rattle.clap.proofs.WalkLemmas.{first_value-rows}
use Rattle.run_words.proofs.matched.option_text.Goals.{in-Some+in_ok-extend, in_default}
use Rattle.run_words.proofs.matched.option_text.Goals as goal

pub returns : goal.returns
returns c = elim c.match-get_str.branch [
  | in-Some+in_ok-extend w ↦ rw (← first_value-rows _ c.args.name.now) (search rules)
  | in_default w ↦ rw (← first_value-rows _ c.args.name.now) (search rules)
]
