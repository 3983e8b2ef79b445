-- What is free beside awards of the same request, and what is offered.
use Rattle.std.specs.Prelude.{ℕ, ◌+◌, ◌==◌, ◌&&◌, nat_le, nat_lt, if◌then◌else◌, Bool, List, [], filter, length, map, sum_by, count_by}
use Rattle.std.specs.List.{enumerate_from}
use Rattle.std.specs.Option.{option_map_or}
use Rattle.auction_core.specs.Draft.{is_reached}
use Rattle.auction_core.specs.Outcomes.{does, told_alone}
use Rattle.auction_core.specs.declared.outcome.Outcome.{Outcome}
use Rattle.campaign_store.specs.declared.limit.Limit.TheVariants.{Sales}
use Rattle.clearing.specs.declared.Offer.{Offer}
use Rattle.deal_rules.specs.Offers.{offers_of}
use Rattle.plain_exchange.specs.declared.settings.Settings.{Settings}
use Rattle.plain_exchange.specs.declared.changes.SoldItem.{SoldItem}
use Rattle.deal_rules.specs.Terms.{user_of}
use Rattle.plain_exchange.specs.declared.commands.Reply.TheVariants as reply
use Rattle.plain_exchange.specs.Auction.{Award, opportunity, sales_of}
use Rattle.plain_exchange.specs.State.{Campaign, State, campaign_at, limit_of, swept, with_sales}
use Rattle.plain_exchange.specs.Step.{all_sold_as, item_of, sold_change}
use Rattle.rtb_types.specs.declared.request.BidRequest.{BidRequest}
use Rattle.rtb_types.specs.declared.request.Imp.{Imp}

-- the state in which these awards are sold
abbrev pub beside : Settings → ℕ → BidRequest → State → List Award → State
beside settings moment r s awards = with_sales (swept moment s) (sales_of settings moment r awards)

-- what they take of the budget of campaign n
abbrev pub awards_cost : ℕ → List Award → ℕ
awards_cost n awards = sum_by (λ (a : Award). if a.1.campaign == n then a.1.price else 0) awards

-- how many of them it has
abbrev pub times : ℕ → List Award → ℕ
times n awards = count_by (λ (a : Award). a.1.campaign == n) awards

-- the campaigns that are looked at
abbrev pub reached : State → BidRequest → Imp → List (ℕ × Campaign)
reached s r imp = filter (is_reached r imp) (enumerate_from 1 s.campaigns)

-- the offers of one of them
abbrev pub offering : State → BidRequest → Imp → ℕ → ℕ × Campaign → List Offer
offering s r imp moment p = offers_of p.0 (opportunity s r imp moment p.0 p.1)

-- its offers by its number
abbrev pub offers_at : State → BidRequest → Imp → ℕ → ℕ → List Offer
offers_at s r imp moment n = option_map_or (λ (c : Campaign). offering s r imp moment (n, c)) (campaign_at s n) []

-- it is the number of a campaign
abbrev pub is_number_in : State → ℕ → Bool
is_number_in s n = nat_le 1 n && nat_le n (length s.campaigns)

-- an award as an item of an effect
abbrev pub item_due : ℕ → Award → SoldItem
item_due due a = record { campaign = a.1.campaign; price = a.1.price; due = due }

-- all awards are sold
abbrev pub selling : Settings → ℕ → BidRequest → State → List Award → Outcome
selling settings moment r s awards = does (reply.Sold (all_sold_as s r awards)) (sold_change (user_of r) (map (item_of settings moment) awards))

-- what comes of the awards
abbrev pub award_outcome : Settings → ℕ → BidRequest → State → List Award → Outcome
award_outcome settings moment r s awards = if length awards == 0 then told_alone reply.NoBid
    else (if nat_lt (limit_of settings) (length s.sales + length awards) then told_alone (reply.Full Sales) else selling settings moment r s awards)
