use Rattle.std.proofs.Common.{List, ap, sym, ◌∙◌, ℕ}
use Rattle.std.specs.Str.{bytes_eq}
use Rattle.deal_rules.specs.Rules.{has_text}
use Rattle.deal_rules.proofs.names.Ids.has.Goals as goal

pub returns : goal.returns
returns c = c.has.ensures ∙ sym (c.self.invariant (λ t. bytes_eq t c.args.id.now)) ∙ ap (λ (l : List (List ℕ)). has_text l c.args.id.now) c.self.view_is
