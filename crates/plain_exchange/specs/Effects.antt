-- Effects: what each does to the state, and a state as a list of effects. An effect that does not fit the
-- state has no result.
use Rattle.std.specs.Prelude.{ℕ, ◌+◌, ◌-◌, ◌==◌, ◌&&◌, ◌||◌, nat_le, nat_lt, not, if◌then◌else◌, List, [], ◌∷◌, ◌++◌, length, map, Bool, true, false, Option, Some, None, option_and_then, is_none, is_some, sum_by}
use Rattle.std.specs.Option.{option_map_or}
use Rattle.budget_book.specs.declared.sales.SaleRow.{SaleRow}
use Rattle.budget_book.specs.declared.sales.SaleState.{SaleState}
use Rattle.budget_book.specs.declared.sales.SaleState.TheVariants as state
use Rattle.budget_book.specs.Sales.{are_settled, gone_count, in_state, is_held, is_billed, most_forgotten}
use Rattle.campaign.specs.declared.parts.FactParts.{FactParts}
use Rattle.plain_exchange.specs.declared.changes.Change.{Change}
use Rattle.plain_exchange.specs.declared.changes.Change.TheVariants as change
use Rattle.plain_exchange.specs.declared.changes.Effect.{Effect}
use Rattle.plain_exchange.specs.declared.changes.KeptCampaign.{KeptCampaign}
use Rattle.plain_exchange.specs.declared.changes.SoldItem.{SoldItem}
use Rattle.plain_exchange.specs.State.{Campaign, State, campaign_at, committed, empty, forget_first, forgotten, free, is_any_due, limit_passed, most_sales, sale_numbered, swept, with_campaign, with_campaigns, with_sale, with_sales}
use Rattle.plain_exchange.specs.Step.{new_campaign, with_live, with_record}
use Rattle.target_expr.specs.declared.pred.Pred.{Pred}

-- the state where the test is true, and else none
abbrev pub only_if : Bool → State → Option State
only_if test s = if test then Some s else None

abbrev pub is_within_limits : State → Bool
is_within_limits s = is_none (limit_passed s)

-- ---- sales of an auction

-- the campaign is there and live, and so much of its budget is free
abbrev pub can_pay : State → ℕ → ℕ → Bool
can_pay s n price = option_map_or (λ (c : Campaign). c.live && nat_le price (free s n c)) (campaign_at s n) false

abbrev pub has_room : State → Bool
has_room s = nat_lt (length s.sales) most_sales

abbrev pub sale_by : ℕ → Option (List ℕ) → SoldItem → SaleRow
sale_by moment user item = record { campaign = item.campaign; price = item.price; moment = moment; due = item.due; state = state.Held; user = user }

-- each in turn, on what the ones before left
abbrev pub with_items : ℕ → Option (List ℕ) → List SoldItem → State → Option State
with_items moment user [] s = Some s
with_items moment user (item ∷ items) s = if can_pay s item.campaign item.price && has_room s then with_items moment user items (with_sales s (sale_by moment user item ∷ [])) else None

-- ---- campaigns

abbrev pub with_added : FactParts → List (List Pred) → State → Option State
with_added facts expr s = only_if (is_within_limits (with_campaigns s (new_campaign facts expr ∷ []))) (with_campaigns s (new_campaign facts expr ∷ []))

abbrev pub with_changed : FactParts → List (List Pred) → ℕ → State → Campaign → Option State
with_changed facts expr n s c = only_if (nat_le (committed s n c) facts.budget && is_within_limits (with_campaign s n (with_record facts expr c))) (with_campaign s n (with_record facts expr c))

-- what is live is paused, and what is paused is resumed
abbrev pub with_paused : ℕ → State → Campaign → Option State
with_paused n s c = only_if c.live (with_campaign s n (with_live false c))

abbrev pub with_resumed : ℕ → State → Campaign → Option State
with_resumed n s c = only_if (not c.live) (with_campaign s n (with_live true c))

-- ---- a sale that is held is billed or lost

abbrev pub with_settled : SaleState → ℕ → State → SaleRow → Option State
with_settled to n s sale = only_if (is_held sale.state) (with_sale s n (in_state to sale))

-- ---- the oldest sales are forgotten

-- those up to the number are there, and none of them is held; where so many are forgotten already nothing is
abbrev pub with_forgotten : ℕ → State → Option State
with_forgotten n s = only_if (nat_le n most_forgotten && are_settled (n - forgotten s) s.sales) (forget_first (n - forgotten s) s)

-- ---- campaigns and sales of a compacted journal

abbrev pub campaign_of : KeptCampaign → Campaign
campaign_of k = record { facts = k.facts; expr = k.expr; live = k.live; gone = k.gone }

-- all campaigns come before all sales
abbrev pub can_keep : State → KeptCampaign → Bool
can_keep s k = (length s.sales == 0) && (is_within_limits (with_campaigns s (campaign_of k ∷ [])) && (nat_le k.gone.spent k.facts.budget && nat_le (forgotten s + gone_count k.gone) most_forgotten))

abbrev pub with_kept : KeptCampaign → State → Option State
with_kept k s = only_if (can_keep s k) (with_campaigns s (campaign_of k ∷ []))

-- what a sale takes of the budget
abbrev pub charge_of : SaleRow → ℕ
charge_of sale = if is_held sale.state || is_billed sale.state then sale.price else 0

abbrev pub can_keep_sale : State → SaleRow → Bool
can_keep_sale s sale = option_map_or (λ c. nat_le (charge_of sale) (free s sale.campaign c)) (campaign_at s sale.campaign) false && has_room s

abbrev pub with_kept_sale : SaleRow → State → Option State
with_kept_sale sale s = only_if (can_keep_sale s sale) (with_sales s (sale ∷ []))

-- ---- effects

-- what is done with campaign n, and with sale n, where they are there
abbrev pub on_campaign : ℕ → (State → Campaign → Option State) → State → Option State
on_campaign n act s = option_and_then (act s) (campaign_at s n)

abbrev pub on_sale : ℕ → (State → SaleRow → Option State) → State → Option State
on_sale n act s = option_and_then (act s) (sale_numbered s n)

-- Held sales that are due by the moment expire first. What is kept has the moment 0, and expires nothing.
abbrev pub change_applied : Change → ℕ → State → Option State
change_applied change.Swept moment s = only_if (is_any_due moment s) (swept moment s)
change_applied (change.Sold items) moment s = with_items moment None items (swept moment s)
change_applied (change.SoldTo user items) moment s = with_items moment (Some user) items (swept moment s)
change_applied (change.Added facts expr) moment s = with_added facts expr (swept moment s)
change_applied (change.Changed n facts expr) moment s = on_campaign n (with_changed facts expr n) (swept moment s)
change_applied (change.Paused n) moment s = on_campaign n (with_paused n) (swept moment s)
change_applied (change.Resumed n) moment s = on_campaign n (with_resumed n) (swept moment s)
change_applied (change.Billed n) moment s = on_sale n (with_settled state.Billed n) (swept moment s)
change_applied (change.Lost n) moment s = on_sale n (with_settled state.Lost n) (swept moment s)
change_applied (change.Forgot n) moment s = with_forgotten n (swept moment s)
change_applied (change.Kept k) moment s = if moment == 0 then with_kept k s else None
change_applied (change.KeptSale sale) moment s = if moment == 0 then with_kept_sale sale s else None

-- the state after the effect, or none where it does not fit
abbrev pub applied : Effect → State → Option State
applied e s = change_applied e.change e.moment s

abbrev pub fits : Effect → State → Bool
fits e s = is_some (applied e s)

-- all in their order, or none where one does not fit
abbrev pub all_applied : List Effect → State → Option State
all_applied [] s = Some s
all_applied (e ∷ es) s = option_and_then (all_applied es) (applied e s)

abbrev pub state_of : List Effect → Option State
state_of es = all_applied es empty

-- ---- a state as effects

abbrev pub kept_campaign : Campaign → Effect
kept_campaign c = record { moment = 0; change = change.Kept (record { live = c.live; facts = c.facts; expr = c.expr; gone = c.gone }) }

abbrev pub kept_sale : SaleRow → Effect
kept_sale sale = record { moment = 0; change = change.KeptSale sale }

abbrev pub kept_effects : State → List Effect
kept_effects s = map kept_campaign s.campaigns ++ map kept_sale s.sales

-- ---- edits: how often a change alters which campaigns are live, or whom they reach

-- one that is kept paused is added and then paused
abbrev pub edits_of_kept : KeptCampaign → ℕ
edits_of_kept k = if k.live then 1 else 2

abbrev pub edits_in : Change → ℕ
edits_in change.Swept = 0
edits_in (change.Sold items) = 0
edits_in (change.SoldTo user items) = 0
edits_in (change.Added facts expr) = 1
edits_in (change.Changed n facts expr) = 1
edits_in (change.Paused n) = 1
edits_in (change.Resumed n) = 1
edits_in (change.Billed n) = 0
edits_in (change.Lost n) = 0
edits_in (change.Forgot n) = 0
edits_in (change.Kept k) = edits_of_kept k
edits_in (change.KeptSale sale) = 0

abbrev pub edits : List Effect → ℕ
edits es = sum_by (λ (e : Effect). edits_in e.change) es
