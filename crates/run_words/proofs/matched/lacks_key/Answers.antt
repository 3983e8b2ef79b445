use Rattle.std.proofs.Common.{◌∙◌, ap₂}
use Rattle.std.specs.Prelude.{◌&&◌, not}
use Rattle.run_words.proofs.matched.lacks_key.Goals as goal

pub returns : goal.returns
returns c = c.is_alone.ensures ∙ ap₂ (λ a b. a && not b) c.is_given-former.ensures c.is_given-key.ensures
