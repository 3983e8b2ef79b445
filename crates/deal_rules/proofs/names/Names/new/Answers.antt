use Rattle.std.proofs.Common.{ap, sym, ◌∙◌}
use Rattle.std.specs.List.{list_any}
use Rattle.deal_rules.proofs.names.Names.new.Goals as goal

pub invariant_of-result : goal.invariant_of-result
invariant_of-result c = λ p. ap (list_any p) (sym c.in_ok-references.ensures) ∙ c.in_ok-ordered.ensures p
