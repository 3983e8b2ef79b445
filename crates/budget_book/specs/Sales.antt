-- Sales, what they add up to for a campaign, and what becomes of them. A sale keeps its number for good;
-- the oldest may be forgotten, and then only sums of them are left ("gone").
use Rattle.std.specs.Prelude.{ℕ, ◌+◌, ◌-◌, ◌*◌, ◌^◌, ◌==◌, ◌&&◌, ◌||◌, nat_lt, nat_le, not, min, if◌then◌else◌, List, length, map, Bool, true, false, Option, Some, None, slice_get, slice_set, option_map, count_by, sum_by}
use Rattle.std.specs.List.{prefix_len}
use Rattle.std.specs.Option.{option_map_or}
use Rattle.std.specs.Str.{bytes_eq}
use Rattle.budget_book.specs.declared.sales.SaleFault.{SaleFault}
use Rattle.budget_book.specs.declared.sales.SaleFault.TheVariants.{NoSuchSale, WasLost, WasExpired, WasBilled, Forgotten}
use Rattle.budget_book.specs.declared.sales.SaleState.{SaleState}
use Rattle.budget_book.specs.declared.sales.SaleState.TheVariants.{Held, Billed, Lost, Expired}
use Rattle.budget_book.specs.declared.sales.SaleRow.{SaleRow}
use Rattle.budget_book.specs.declared.sales.Gone.{Gone}
use Rattle.budget_book.specs.declared.sales.Totals.{Totals}

-- ---- one sale

abbrev pub is_held : SaleState → Bool
is_held Held = true
is_held Billed = false
is_held Lost = false
is_held Expired = false

abbrev pub is_billed : SaleState → Bool
is_billed Held = false
is_billed Billed = true
is_billed Lost = false
is_billed Expired = false

abbrev pub is_lost : SaleState → Bool
is_lost Held = false
is_lost Billed = false
is_lost Lost = true
is_lost Expired = false

abbrev pub is_expired : SaleState → Bool
is_expired Held = false
is_expired Billed = false
is_expired Lost = false
is_expired Expired = true

-- a held sale waits for its billing until it is due
abbrev pub is_due : ℕ → SaleRow → Bool
is_due moment s = is_held s.state && nat_le s.due moment

abbrev pub state_at : ℕ → SaleRow → SaleState
state_at moment s = if is_due moment s then Expired else s.state

abbrev pub in_state : SaleState → SaleRow → SaleRow
in_state state s = record s { state = state }

-- held sales that are due by the moment expire
abbrev pub expired_at : ℕ → SaleRow → SaleRow
expired_at moment s = in_state (state_at moment s) s

abbrev pub expired : ℕ → List SaleRow → List SaleRow
expired moment sales = map (expired_at moment) sales

-- how many expire
abbrev pub due_count : ℕ → List SaleRow → ℕ
due_count moment sales = count_by (is_due moment) sales

-- ---- sums over the sales of a campaign

abbrev pub is_held_of : ℕ → SaleRow → Bool
is_held_of c s = (s.campaign == c) && is_held s.state

abbrev pub is_billed_of : ℕ → SaleRow → Bool
is_billed_of c s = (s.campaign == c) && is_billed s.state

abbrev pub is_lost_of : ℕ → SaleRow → Bool
is_lost_of c s = (s.campaign == c) && is_lost s.state

abbrev pub is_expired_of : ℕ → SaleRow → Bool
is_expired_of c s = (s.campaign == c) && is_expired s.state

-- the prices of the sales that pass
abbrev pub prices : (SaleRow → Bool) → List SaleRow → ℕ
prices test sales = sum_by (λ (s : SaleRow). if test s then s.price else 0) sales

-- what the campaign spent and has reserved
abbrev pub committed_of : ℕ → Gone → List SaleRow → ℕ
committed_of c gone sales = gone.spent + prices (λ s. is_held_of c s || is_billed_of c s) sales

abbrev pub totals_of : ℕ → Gone → List SaleRow → Totals
totals_of c gone sales = record {
  reserved = prices (is_held_of c) sales;
  spent = gone.spent + prices (is_billed_of c) sales;
  held = count_by (is_held_of c) sales;
  billed = gone.billed + count_by (is_billed_of c) sales;
  lost = gone.lost + count_by (is_lost_of c) sales;
  expired = gone.expired + count_by (is_expired_of c) sales;
}

-- ---- frequency: how often a user was shown a campaign

abbrev pub is_to : List ℕ → Option (List ℕ) → Bool
is_to user None = false
is_to user (Some other) = bytes_eq other user

-- a sale of the campaign to the user counts for so many seconds from its own moment on, unless it was
-- lost or expired
abbrev pub is_shown : ℕ → List ℕ → ℕ → ℕ → SaleRow → Bool
is_shown c user seconds moment s = (is_held_of c s || is_billed_of c s) && (is_to user s.user && nat_lt moment (s.moment + 1000 * seconds))

abbrev pub shown_of : ℕ → List ℕ → ℕ → ℕ → List SaleRow → ℕ
shown_of c user seconds moment sales = count_by (is_shown c user seconds moment) sales

-- ---- forgetting

abbrev pub most_forgotten : ℕ
most_forgotten = 2 ^ 62

-- how many of the oldest sales can be forgotten: up to the first that is held, so that at least so many
-- are left, and so that no more than 2^62 are forgotten in all
abbrev pub forgettable : ℕ → ℕ → List SaleRow → ℕ
forgettable keep forgotten sales = min (prefix_len (λ (s : SaleRow). not (is_held s.state)) sales) (min (length sales - keep) (most_forgotten - forgotten))

-- the most that are forgotten at once while others are served
abbrev pub most_at_once : ℕ
most_at_once = 16384

-- how many are forgotten at once
abbrev pub forgettable_at_once : ℕ → ℕ → List SaleRow → ℕ
forgettable_at_once keep forgotten sales = min (forgettable keep forgotten sales) most_at_once

-- whether the first n are there and none of them is held
abbrev pub are_settled : ℕ → List SaleRow → Bool
are_settled n sales = nat_le n (prefix_len (λ (s : SaleRow). not (is_held s.state)) sales)

-- what is gone of a campaign once these sales are forgotten too
abbrev pub gone_with : ℕ → Gone → List SaleRow → Gone
gone_with c gone sales = record {
  spent = gone.spent + prices (is_billed_of c) sales;
  billed = gone.billed + count_by (is_billed_of c) sales;
  lost = gone.lost + count_by (is_lost_of c) sales;
  expired = gone.expired + count_by (is_expired_of c) sales;
}

-- nothing is gone of a new campaign
abbrev pub none_gone : Gone
none_gone = record { spent = 0; billed = 0; lost = 0; expired = 0 }

-- how many sales are gone of a campaign
abbrev pub gone_count : Gone → ℕ
gone_count g = g.billed + g.lost + g.expired

-- ---- sales by number, from 1 on, where so many are forgotten

abbrev pub sale_at : ℕ → List SaleRow → ℕ → Option SaleRow
sale_at forgotten sales n = if nat_le n forgotten then None else slice_get sales (n - forgotten - 1)

-- the sales, where sale n changes to that state if it is held
abbrev pub settled_in : SaleState → ℕ → List SaleRow → ℕ → List SaleRow
settled_in to forgotten sales n = option_map_or (λ (s : SaleRow). if is_held s.state then slice_set sales (n - forgotten - 1) (in_state to s) else sales) (sale_at forgotten sales n) sales

abbrev pub state_in : ℕ → List SaleRow → ℕ → Option SaleState
state_in forgotten sales n = option_map (λ (s : SaleRow). s.state) (sale_at forgotten sales n)

-- why a sale in that state is not billed
abbrev pub billing_fault : SaleState → Option SaleFault
billing_fault Held = None
billing_fault Billed = None
billing_fault Lost = Some WasLost
billing_fault Expired = Some WasExpired

-- why it is not lost
abbrev pub losing_fault : SaleState → Option SaleFault
losing_fault Held = None
losing_fault Billed = Some WasBilled
losing_fault Lost = None
losing_fault Expired = Some WasExpired

abbrev pub sale_fault : (SaleState → Option SaleFault) → ℕ → List SaleRow → ℕ → Option SaleFault
sale_fault by forgotten sales n = if nat_le 1 n && nat_le n forgotten then Some Forgotten else option_map_or by (state_in forgotten sales n) (Some NoSuchSale)
