-- What holds of every state that an exchange comes to: no budget is overspent, the limits are kept, and the
-- campaign of each sale is there.
use Rattle.std.specs.Prelude.{◌≡◌, ℕ, ◌≤◌, nat_le, ◌&&◌, length, Bool, IsTrue, Some}
use Rattle.std.specs.List.{list_all}
use Rattle.budget_book.specs.declared.sales.SaleRow.{SaleRow}
use Rattle.budget_book.specs.Sales.{most_forgotten}
use Rattle.plain_exchange.specs.Effects.{is_within_limits}
use Rattle.plain_exchange.specs.State.{Campaign, State, campaign_at, committed, forgotten, most_sales}

-- no campaign has spent and reserved more than its budget
abbrev pub IsSolvent : State → Type 0
IsSolvent s = (n : ℕ) (c : Campaign) → campaign_at s n ≡ Some c → committed s n c ≤ c.facts.budget

-- the sale's campaign is one of so many
abbrev pub is_known : ℕ → SaleRow → Bool
is_known campaigns sale = nat_le 1 sale.campaign && nat_le sale.campaign campaigns

pub record IsConsistent (s : State) : Type 0 where
  pub solvent : IsSolvent s
  pub within : IsTrue (is_within_limits s)
  pub known : IsTrue (list_all (is_known (length s.campaigns)) s.sales)
  pub few : length s.sales ≤ most_sales
  pub few_forgotten : forgotten s ≤ most_forgotten
