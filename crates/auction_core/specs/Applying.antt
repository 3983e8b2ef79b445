-- What comes of carrying out an effect.
use Rattle.std.specs.Prelude.{◌≡◌, ℕ, ◌==◌, if◌then◌else◌, IsTrue, List, Option, None, is_some, map, sum_by}
use Rattle.auction_core.specs.declared.fault.ApplyFault.{ApplyFault}
use Rattle.auction_core.specs.declared.fault.ApplyFault.TheVariants as fault
use Rattle.plain_exchange.specs.declared.changes.SoldItem.{SoldItem}
use Rattle.plain_exchange.specs.Effects.{sale_by}
use Rattle.plain_exchange.specs.State.{State, with_sales}

-- by the state after the effect, where it fits: it is unfit exactly where there is none
abbrev pub Explains : Option State → ApplyFault → Type 0
Explains after fault.Unfit = after ≡ None
Explains after fault.Memory = IsTrue (is_some after)

-- ---- Only private clauses cite what follows.

-- to whom sales are made, where that is known
abbrev pub User : Type 0
User = Option (List ℕ)

-- the state in which these items are sold
abbrev pub with_sold : ℕ → User → List SoldItem → State → State
with_sold moment user items s = with_sales s (map (sale_by moment user) items)

-- what they take of the budget of campaign n
abbrev pub items_cost : ℕ → List SoldItem → ℕ
items_cost n items = sum_by (λ (item : SoldItem). if item.campaign == n then item.price else 0) items
