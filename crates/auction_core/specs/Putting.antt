-- What carrying out an effect takes, and what single changes make of the state.
use Rattle.std.specs.Prelude.{◌≡◌, ℕ, ◌≤◌, ◌+◌, ◌&&◌, List, [], length, map, Bool, false, IsTrue, nat_le, Option, None, Some}
use Rattle.std.specs.Option.{option_map_or}
use Rattle.auction_core.specs.Core.{CoreState}
use Rattle.auction_core.specs.declared.draft.Memory.{Memory}
use Rattle.auction_core.specs.declared.draft.Memory.TheVariants as memory
use Rattle.budget_book.specs.declared.sales.SaleState.{SaleState}
use Rattle.budget_book.specs.Sales.{settled_in}
use Rattle.campaign_store.specs.declared.record.Record.{Record}
use Rattle.plain_exchange.specs.declared.changes.Change.{Change}
use Rattle.plain_exchange.specs.declared.changes.Change.TheVariants as change
use Rattle.plain_exchange.specs.declared.changes.Effect.{Effect}
use Rattle.plain_exchange.specs.declared.changes.SoldItem.{SoldItem}
use Rattle.plain_exchange.specs.Effects.{applied, is_within_limits}
use Rattle.plain_exchange.specs.State.{Campaign, State, campaign_at, committed, forgotten, with_campaign}
use Rattle.plain_exchange.specs.Step.{with_record}

-- the user's key for each item, where there is a user
abbrev pub keys_for : Option (List ℕ) → List SoldItem → List (List ℕ)
keys_for None items = []
keys_for (Some user) items = map (λ (item : SoldItem). user) items

-- the memory that a change takes
abbrev pub memory_of : Change → Memory
memory_of change.Swept = memory.Nothing
memory_of (change.Sold items) = memory.Keys (keys_for None items)
memory_of (change.Added facts expr) = memory.Entry (record { facts = facts; expr = expr })
memory_of (change.Changed n facts expr) = memory.Entry (record { facts = facts; expr = expr })
memory_of (change.Paused n) = memory.Nothing
memory_of (change.Resumed n) = memory.Nothing
memory_of (change.Billed n) = memory.Nothing
memory_of (change.Lost n) = memory.Nothing
memory_of (change.Forgot n) = memory.Nothing
memory_of (change.SoldTo user items) = memory.Keys (keys_for (Some user) items)
memory_of (change.Kept k) = memory.Entry (record { facts = k.facts; expr = k.expr })
memory_of (change.KeptSale sale) = memory.Sale sale sale.user

-- how many sales and campaigns it adds
abbrev pub sales_in : Change → ℕ
sales_in change.Swept = 0
sales_in (change.Sold items) = length items
sales_in (change.Added facts expr) = 0
sales_in (change.Changed n facts expr) = 0
sales_in (change.Paused n) = 0
sales_in (change.Resumed n) = 0
sales_in (change.Billed n) = 0
sales_in (change.Lost n) = 0
sales_in (change.Forgot n) = 0
sales_in (change.SoldTo user items) = length items
sales_in (change.Kept k) = 0
sales_in (change.KeptSale sale) = 1

abbrev pub campaigns_in : Change → ℕ
campaigns_in change.Swept = 0
campaigns_in (change.Sold items) = 0
campaigns_in (change.Added facts expr) = 1
campaigns_in (change.Changed n facts expr) = 0
campaigns_in (change.Paused n) = 0
campaigns_in (change.Resumed n) = 0
campaigns_in (change.Billed n) = 0
campaigns_in (change.Lost n) = 0
campaigns_in (change.Forgot n) = 0
campaigns_in (change.SoldTo user items) = 0
campaigns_in (change.Kept k) = 1
campaigns_in (change.KeptSale sale) = 0

abbrev pub HasRoom : Change → CoreState → Type 0
HasRoom c core = (sales_in c ≤ core.sale_room) × (campaigns_in c ≤ core.campaign_room)

-- ---- Only private clauses cite what follows.

-- it came to that state by so many edits
pub record Puts (after : Option State) (edits : ℕ) (old new : CoreState) : Type 0 where
  pub after_is : after ≡ Some new.state
  pub settings : new.settings ≡ old.settings
  pub edited : new.edits ≡ old.edits + edits

-- the effect, or none, leads from the one state to the other
abbrev pub Leads : Option Effect → State → State → Type 0
Leads None old new = new ≡ old
Leads (Some e) old new = applied e old ≡ Some new

-- campaign n is changed, where it is there
abbrev pub changed_at : ℕ → (Campaign → Campaign) → State → State
changed_at n change s = option_map_or (λ c. with_campaign s n (change c)) (campaign_at s n) s

-- sale n changes to that state, where it is held
abbrev pub settled : SaleState → ℕ → State → State
settled to n s = record s { sales = settled_in to (forgotten s) s.sales n }

-- the campaign is there, and that test is true of it
abbrev pub IsAt : State → ℕ → (Campaign → Bool) → Type 0
IsAt s n test = IsTrue (option_map_or test (campaign_at s n) false)

-- no budget goes below what is committed
abbrev pub can_change : State → ℕ → Record → Campaign → Bool
can_change s n entry c = nat_le (committed s n c) entry.facts.budget && is_within_limits (with_campaign s n (with_record entry.facts entry.expr c))
