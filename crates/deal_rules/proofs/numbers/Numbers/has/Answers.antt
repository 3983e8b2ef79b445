use Rattle.std.proofs.Common.{ℤ, List, ap, subst, sym, ◌∙◌}
use Rattle.std.specs.List.{list_any}
use Rattle.std.specs.Ordering.{int_eq}
use Rattle.deal_rules.proofs.Naming.{number_looked_up}
use Rattle.deal_rules.specs.Named.{AreOrderedNumbers}
use Rattle.deal_rules.proofs.numbers.Numbers.has.Goals as goal

pub returns : goal.returns
returns c =
    let numbers = c.self.inside.numbers.now in
    let ordered = c.deref.result.now in
    c.is_ok.ensures.value
    ∙ number_looked_up numbers ordered c.args.number.now c.binary_search.result (subst (AreOrderedNumbers numbers) (sym c.deref.ensures.value) c.self.invariant) c.binary_search.ensures.bound c.binary_search.ensures.position
    ∙ ap (λ (l : List ℤ). list_any (λ b. int_eq b c.args.number.now) l) c.self.view_is
