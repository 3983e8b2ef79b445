use Rattle.std.proofs.Common.{sym, ◌∙◌}
use Rattle.market_cases.proofs.Lengths.{set_length}
use Rattle.market_cases.proofs.book.Shop.set_budget.Goals as goal

pub invariant_of-self-2 : goal.invariant_of-self-2
invariant_of-self-2 c = c.self.invariant ∙ sym (set_length c.set_budget.result _ _ _ _ c.set_budget.ensures.campaigns c.set_budget.ensures.unchanged)
