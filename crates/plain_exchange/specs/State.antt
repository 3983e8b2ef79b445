-- The state of an exchange: a list of campaigns and a list of sales, both numbered from 1. Nothing else is
-- in it. Moments are in milliseconds, and money is in nano-dollars.
use Rattle.std.specs.Prelude.{ℕ, ◌-◌, ◌==◌, nat_lt, min, if◌then◌else◌, List, [], ◌++◌, map, take, drop, Bool, Option, None, slice_get, slice_set, sum_by}
use Rattle.std.specs.List.{enumerate_from}
use Rattle.budget_book.specs.declared.sales.Gone.{Gone}
use Rattle.budget_book.specs.declared.sales.SaleRow.{SaleRow}
use Rattle.budget_book.specs.declared.sales.Totals.{Totals}
use Rattle.budget_book.specs.Sales.{committed_of, due_count, expired, forgettable, gone_count, gone_with, sale_at, totals_of}
use Rattle.campaign.specs.declared.parts.FactParts.{FactParts}
use Rattle.campaign_store.specs.declared.limit.Limit.{Limit}
use Rattle.campaign_store.specs.declared.record.Record.{Record}
use Rattle.campaign_store.specs.Limits.{passed_limit}
use Rattle.plain_exchange.specs.declared.settings.Settings.{Settings}
use Rattle.target_expr.specs.declared.pred.Pred.{Pred}

-- what the advertiser states, whom it wants to reach, whether it buys now (live) or is paused, and what is
-- left of its sales that were forgotten
pub record Campaign : Type 0 where
  pub facts : FactParts
  pub expr : List (List Pred)
  pub live : Bool
  pub gone : Gone

pub record State : Type 0 where
  pub campaigns : List Campaign
  pub sales : List SaleRow

abbrev pub empty : State
empty = record { campaigns = []; sales = [] }

-- ---- by number

abbrev pub campaign_at : State → ℕ → Option Campaign
campaign_at s n = if n == 0 then None else slice_get s.campaigns (n - 1)

-- how many sales were forgotten, of all campaigns
abbrev pub forgotten : State → ℕ
forgotten s = sum_by (λ (c : Campaign). gone_count c.gone) s.campaigns

-- the sales of the list have the numbers above those of the forgotten ones
abbrev pub sale_numbered : State → ℕ → Option SaleRow
sale_numbered s n = sale_at (forgotten s) s.sales n

abbrev pub with_campaign : State → ℕ → Campaign → State
with_campaign s n c = record s { campaigns = slice_set s.campaigns (n - 1) c }

abbrev pub with_sale : State → ℕ → SaleRow → State
with_sale s n sale = record s { sales = slice_set s.sales (n - forgotten s - 1) sale }

abbrev pub with_campaigns : State → List Campaign → State
with_campaigns s more = record s { campaigns = s.campaigns ++ more }

abbrev pub with_sales : State → List SaleRow → State
with_sales s more = record s { sales = s.sales ++ more }

-- ---- money of campaign n

-- what it spent and has reserved
abbrev pub committed : State → ℕ → Campaign → ℕ
committed s n c = committed_of n c.gone s.sales

-- what is left of its budget
abbrev pub free : State → ℕ → Campaign → ℕ
free s n c = c.facts.budget - committed s n c

abbrev pub totals : State → ℕ → Campaign → Totals
totals s n c = totals_of n c.gone s.sales

-- ---- time

-- held sales that are due by the moment expire
abbrev pub swept : ℕ → State → State
swept moment s = record s { sales = expired moment s.sales }

-- whether any does
abbrev pub is_any_due : ℕ → State → Bool
is_any_due moment s = nat_lt 0 (due_count moment s.sales)

-- ---- limits

abbrev pub record_of : Campaign → Record
record_of c = record { facts = c.facts; expr = c.expr }

-- the first limit that the campaigns of the state, paused ones included, are above
abbrev pub limit_passed : State → Option Limit
limit_passed s = passed_limit (map record_of s.campaigns)

-- the most sales that a list may have at all
abbrev pub most_sales : ℕ
most_sales = 67108864

-- the most sales that auctions bring it to
abbrev pub limit_of : Settings → ℕ
limit_of settings = min settings.limit most_sales

-- ---- forgetting the oldest sales

-- the campaign with that number takes up its own of the sales that are forgotten
abbrev pub with_gone : List SaleRow → ℕ × Campaign → Campaign
with_gone sales p = record p.1 { gone = gone_with p.0 p.1.gone sales }

abbrev pub forget_first : ℕ → State → State
forget_first n s = record { campaigns = map (with_gone (take n s.sales)) (enumerate_from 1 s.campaigns); sales = drop n s.sales }

-- the longest front of sales of which none is held is forgotten, but at least so many sales are kept, and
-- no more than 2^62 are ever forgotten
abbrev pub forget : ℕ → State → State
forget keep s = forget_first (forgettable keep (forgotten s) s.sales) s
