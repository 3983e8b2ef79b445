-- What each command does to the state, its reply, and the effect that it leaves for the journal.
use Rattle.std.specs.Prelude.{ℕ, ◌+◌, ◌-◌, ◌==◌, ◌&&◌, nat_lt, nat_le, if◌then◌else◌, List, [], ◌∷◌, length, map, Bool, true, false, Option, Some, None, option_map, option_and_then, slice_get}
use Rattle.std.specs.List.{enumerate_from, filter_map}
use Rattle.std.specs.Option.{option_map_or, option_or}
use Rattle.budget_book.specs.declared.sales.Gone.{Gone}
use Rattle.budget_book.specs.declared.sales.SaleRow.{SaleRow}
use Rattle.budget_book.specs.declared.sales.SaleState.{SaleState}
use Rattle.budget_book.specs.declared.sales.SaleState.TheVariants as state
use Rattle.budget_book.specs.Sales.{forgettable_at_once, in_state}
use Rattle.campaign.specs.declared.parts.FactParts.{FactParts}
use Rattle.campaign_store.specs.declared.limit.Limit.TheVariants.{Sales}
use Rattle.deal_rules.specs.Terms.{user_of}
use Rattle.plain_exchange.specs.declared.changes.Change.{Change}
use Rattle.plain_exchange.specs.declared.changes.Change.TheVariants as change
use Rattle.plain_exchange.specs.declared.changes.Effect.{Effect}
use Rattle.plain_exchange.specs.declared.changes.SoldItem.{SoldItem}
use Rattle.plain_exchange.specs.declared.commands.Act.{Act}
use Rattle.plain_exchange.specs.declared.commands.Act.TheVariants as act
use Rattle.plain_exchange.specs.declared.commands.Command.{Command}
use Rattle.plain_exchange.specs.declared.commands.Command.TheVariants as command
use Rattle.plain_exchange.specs.declared.commands.Look.{Look}
use Rattle.plain_exchange.specs.declared.commands.Look.TheVariants as look
use Rattle.plain_exchange.specs.declared.commands.Reply.{Reply}
use Rattle.plain_exchange.specs.declared.commands.Reply.TheVariants as reply
use Rattle.plain_exchange.specs.declared.commands.Sold.{Sold}
use Rattle.plain_exchange.specs.declared.settings.Settings.{Settings}
use Rattle.plain_exchange.specs.Auction.{Award, awards_of, due_at, sales_of}
use Rattle.plain_exchange.specs.State.{Campaign, State, campaign_at, committed, forget_first, forgotten, is_any_due, limit_of, limit_passed, record_of, sale_numbered, swept, totals, with_campaign, with_campaigns, with_sale, with_sales}
use Rattle.rtb_types.specs.declared.request.BidRequest.{BidRequest}
use Rattle.rtb_types.specs.declared.request.Deal.{Deal}
use Rattle.rtb_types.specs.declared.request.Imp.{Imp}
use Rattle.target_expr.specs.declared.pred.Pred.{Pred}

-- the state after a command, its reply, and its own change, where it made one
pub record Transition : Type 0 where
  pub after : State
  pub reply : Reply
  pub change : Option Change

abbrev pub unchanged : State → Reply → Transition
unchanged s r = record { after = s; reply = r; change = None }

abbrev pub changing : State → Reply → Change → Transition
changing s r c = record { after = s; reply = r; change = Some c }

-- ---- auctions

-- the id of the deal of a pool; the public pool is 0, and has none
abbrev pub deal_of : BidRequest → ℕ → ℕ → Option (List ℕ)
deal_of r imp pool = if pool == 0 then None else option_and_then (λ (i : Imp). option_map (λ (d : Deal). d.id) (slice_get i.pmp.deals (pool - 1))) (slice_get r.imps imp)

-- an award as it is answered, with the number of its sale and the winner's record
abbrev pub sold_as : State → BidRequest → ℕ × Award → Option Sold
sold_as s r p = option_map (λ (c : Campaign). record { imp = p.1.0; sale = p.0; price = p.1.1.price; deal = deal_of r p.1.0 p.1.1.pool; campaign = p.1.1.campaign; «record» = record_of c }) (campaign_at s p.1.1.campaign)

-- the sales get the next numbers
abbrev pub all_sold_as : State → BidRequest → List Award → List Sold
all_sold_as s r awards = filter_map (sold_as s r) (enumerate_from (forgotten s + length s.sales + 1) awards)

abbrev pub item_of : Settings → ℕ → Award → SoldItem
item_of settings moment a = record { campaign = a.1.campaign; price = a.1.price; due = due_at settings.ttl moment }

-- sold to the user, where there is one
abbrev pub sold_change : Option (List ℕ) → List SoldItem → Change
sold_change None items = change.Sold items
sold_change (Some user) items = change.SoldTo user items

-- all is sold, or nothing where the list would be longer than it is to be
abbrev pub sell : Settings → ℕ → BidRequest → State → List Award → Transition
sell settings moment r s awards = if nat_lt (limit_of settings) (length s.sales + length awards)
    then unchanged s (reply.Full Sales)
    else changing (with_sales s (sales_of settings moment r awards)) (reply.Sold (all_sold_as s r awards)) (sold_change (user_of r) (map (item_of settings moment) awards))

abbrev pub auction : Settings → ℕ → BidRequest → State → List Award → Transition
auction settings moment r s [] = unchanged s reply.NoBid
auction settings moment r s (a ∷ awards) = sell settings moment r s (a ∷ awards)

-- ---- campaigns

abbrev pub none_gone : Gone
none_gone = record { spent = 0; billed = 0; lost = 0; expired = 0 }

abbrev pub new_campaign : FactParts → List (List Pred) → Campaign
new_campaign facts expr = record { facts = facts; expr = expr; live = true; gone = none_gone }

-- the change, unless the campaigns after it are above a limit
abbrev pub within_limits : State → Transition → Transition
within_limits s t = option_map_or (λ limit. unchanged s (reply.Full limit)) (limit_passed t.after) t

abbrev pub add_campaign : FactParts → List (List Pred) → State → Transition
add_campaign facts expr s = within_limits s (changing (with_campaigns s (new_campaign facts expr ∷ [])) (reply.Added (length s.campaigns + 1)) (change.Added facts expr))

-- what is done with campaign n, where it is there
abbrev pub at_campaign : State → ℕ → (Campaign → Transition) → Transition
at_campaign s n done = option_map_or done (campaign_at s n) (unchanged s reply.NoSuchCampaign)

-- another record; that it is live or paused, and what is gone, stay
abbrev pub with_record : FactParts → List (List Pred) → Campaign → Campaign
with_record facts expr c = record c { facts = facts; expr = expr }

-- no budget goes below what is committed
abbrev pub change_campaign : FactParts → List (List Pred) → ℕ → State → Campaign → Transition
change_campaign facts expr n s c = if nat_lt facts.budget (committed s n c)
    then unchanged s (reply.BelowCommitted (committed s n c))
    else within_limits s (changing (with_campaign s n (with_record facts expr c)) (reply.Changed n) (change.Changed n facts expr))

abbrev pub with_live : Bool → Campaign → Campaign
with_live live c = record c { live = live }

-- pausing what is paused changes nothing, and resuming what is live neither
abbrev pub pause_campaign : ℕ → State → Campaign → Transition
pause_campaign n s c = if c.live then changing (with_campaign s n (with_live false c)) (reply.Paused n) (change.Paused n) else unchanged s (reply.Paused n)

abbrev pub resume_campaign : ℕ → State → Campaign → Transition
resume_campaign n s c = if c.live then unchanged s (reply.Resumed n) else changing (with_campaign s n (with_live true c)) (reply.Resumed n) (change.Resumed n)

-- ---- sales

-- what is done with sale n, where it is in the list
abbrev pub at_sale : State → ℕ → (SaleRow → Transition) → Transition
at_sale s n done = if nat_le 1 n && nat_le n (forgotten s) then unchanged s reply.Forgotten else option_map_or done (sale_numbered s n) (unchanged s reply.NoSuchSale)

-- by the state of the sale; billing twice charges once
abbrev pub billed_by : SaleState → ℕ → State → SaleRow → Transition
billed_by state.Held n s sale = changing (with_sale s n (in_state state.Billed sale)) (reply.Billed n) (change.Billed n)
billed_by state.Billed n s sale = unchanged s (reply.Billed n)
billed_by state.Lost n s sale = unchanged s reply.WasLost
billed_by state.Expired n s sale = unchanged s reply.WasExpired

abbrev pub lost_by : SaleState → ℕ → State → SaleRow → Transition
lost_by state.Held n s sale = changing (with_sale s n (in_state state.Lost sale)) (reply.Lost n) (change.Lost n)
lost_by state.Billed n s sale = unchanged s reply.WasBilled
lost_by state.Lost n s sale = unchanged s (reply.Lost n)
lost_by state.Expired n s sale = unchanged s reply.WasExpired

abbrev pub bill_sale : ℕ → State → SaleRow → Transition
bill_sale n s sale = billed_by sale.state n s sale

abbrev pub lose_sale : ℕ → State → SaleRow → Transition
lose_sale n s sale = lost_by sale.state n s sale

-- ---- forgetting

-- how many sales are left in the list without the first n, and how many are forgotten then
abbrev pub trimmed : ℕ → State → Reply
trimmed n s = reply.Trimmed (length s.sales - n) (forgotten s + n)

-- the first n sales are forgotten; where that is none nothing changes
abbrev pub trim : ℕ → State → Transition
trim n s = if n == 0 then unchanged s (trimmed n s) else changing (forget_first n s) (trimmed n s) (change.Forgot (forgotten s + n))

-- the oldest that are not held, up to the first that is, so that so many are left, and no more than 16,384 at once
abbrev pub forget_sales : ℕ → State → Transition
forget_sales keep s = trim (forgettable_at_once keep (forgotten s) s.sales) s

-- ---- looks

abbrev pub report_of : ℕ → State → Campaign → Reply
report_of n s c = reply.Reported n c.live c.facts.bid c.facts.budget (totals s n c)

-- what a look at a state is told
abbrev pub told : State → Look → Reply
told s (look.Report n) = option_map_or (report_of n s) (campaign_at s n) reply.NoSuchCampaign

-- ---- the step

-- what an act does to a state in which no held sale is due
abbrev pub enact : State → Act → Transition
enact s (act.Add facts expr) = add_campaign facts expr s
enact s (act.Change n facts expr) = at_campaign s n (change_campaign facts expr n s)
enact s (act.Pause n) = at_campaign s n (pause_campaign n s)
enact s (act.Resume n) = at_campaign s n (resume_campaign n s)
enact s (act.Bill n) = at_sale s n (bill_sale n s)
enact s (act.Lose n) = at_sale s n (lose_sale n s)
enact s (act.Forget keep) = forget_sales keep s
enact s (act.Look l) = unchanged s (told s l)

-- what the command does to such a state
abbrev pub perform : Settings → ℕ → State → Command → Transition
perform settings moment s (command.Auction r) = auction settings moment r s (awards_of settings moment r s)
perform settings moment s (command.Act a) = enact s a

-- held sales that are due expire first
abbrev pub step : Settings → ℕ → State → Command → Transition
step settings moment s command = perform settings moment (swept moment s) command

-- the command's own change, or else that sales expired, or none
abbrev pub change_of : Settings → ℕ → State → Command → Option Change
change_of settings moment s command = option_or (step settings moment s command).change (if is_any_due moment s then Some change.Swept else None)

abbrev pub effect_of : Settings → ℕ → State → Command → Option Effect
effect_of settings moment s command = option_map (λ c. record { moment = moment; change = c }) (change_of settings moment s command)
