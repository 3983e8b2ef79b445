-- What is sold of a bid request: one impression after the other, each on the state that the sales before it
-- left (OpenRTB 2.5, sections 3.2.1 and 3.2.4).
use Rattle.std.specs.Prelude.{ℕ, ◌+◌, ◌-◌, ◌^◌, ◌&&◌, min, if◌then◌else◌, fold, List, [], ◌++◌, map, Option, option_map, option_to_list}
use Rattle.std.specs.List.{enumerate_from, flat_map}
use Rattle.std.specs.Option.{option_map_or}
use Rattle.assign.specs.Rows.{pairs_of}
use Rattle.budget_book.specs.declared.sales.SaleRow.{SaleRow}
use Rattle.budget_book.specs.declared.sales.SaleState.TheVariants.{Held}
use Rattle.budget_book.specs.Sales.{shown_of}
use Rattle.campaign.specs.Caps.{CapTerms}
use Rattle.clearing.specs.declared.Offer.{Offer}
use Rattle.clearing.specs.declared.Win.{Win}
use Rattle.clearing.specs.Clearing.{outcome}
use Rattle.deal_rules.specs.Offers.{offers_of}
use Rattle.deal_rules.specs.Rules.{Opportunity, opportunity_of}
use Rattle.deal_rules.specs.Terms.{terms_of, user_of}
use Rattle.plain_exchange.specs.declared.settings.Settings.{Settings}
use Rattle.plain_exchange.specs.State.{Campaign, State, free, with_sales}
use Rattle.rtb_types.specs.declared.request.BidRequest.{BidRequest}
use Rattle.rtb_types.specs.declared.request.Imp.{Imp}
use Rattle.target_expr.specs.Truth.{holds}

-- ---- offers

-- how many sales of campaign n to the user its cap counts at the moment; 0 where it has no cap
abbrev pub shown_to : State → ℕ → ℕ → Campaign → List ℕ → ℕ
shown_to s moment n c user = option_map_or (λ (cap : CapTerms). shown_of n user cap.seconds moment s.sales) c.facts.cap 0

-- what the rules look at for campaign n
abbrev pub opportunity : State → BidRequest → Imp → ℕ → ℕ → Campaign → Opportunity
opportunity s r imp moment n c = opportunity_of r imp c.facts (free s n c) (option_map (shown_to s moment n c) (user_of r))

-- a campaign, with its number, offers where it is live, its expression is true of the impression, and the
-- rules let it
abbrev pub offers_by : State → BidRequest → Imp → ℕ → ℕ × Campaign → List Offer
offers_by s r imp moment p = if p.1.live && holds (pairs_of r imp) p.1.expr then offers_of p.0 (opportunity s r imp moment p.0 p.1) else []

-- the offers of all campaigns, in the order of their numbers
abbrev pub offers : State → BidRequest → Imp → ℕ → List Offer
offers s r imp moment = flat_map (offers_by s r imp moment) (enumerate_from 1 s.campaigns)

-- who wins the impression, and at what price
abbrev pub win : State → BidRequest → Imp → ℕ → Option Win
win s r imp moment = outcome (offers s r imp moment) (terms_of r imp)

-- ---- sales

-- an impression, by its place in the request from 0, and its win
abbrev pub Award : Type 0
Award = ℕ × Win

-- a sale made at the moment is due so much later (ttl), or at the last moment that there is
abbrev pub due_at : ℕ → ℕ → ℕ
due_at ttl moment = min (moment + ttl) (2 ^ 64 - 1)

-- One impression at p micro-dollars per thousand costs p nano-dollars.
abbrev pub sale_of : Settings → ℕ → BidRequest → Award → SaleRow
sale_of settings moment r a = record { campaign = a.1.campaign; price = a.1.price; moment = moment; due = due_at settings.ttl moment; state = Held; user = user_of r }

abbrev pub sales_of : Settings → ℕ → BidRequest → List Award → List SaleRow
sales_of settings moment r awards = map (sale_of settings moment r) awards

-- the awards, and that of the next impression where somebody wins it beside the sales of these awards
abbrev pub award_next : Settings → ℕ → BidRequest → State → List Award → ℕ × Imp → List Award
award_next settings moment r s awards p = awards ++ option_to_list (option_map (λ (w : Win). (p.0, w)) (win (with_sales s (sales_of settings moment r awards)) r p.1 moment))

-- the awards of all impressions, in their order
abbrev pub awards_of : Settings → ℕ → BidRequest → State → List Award
awards_of settings moment r s = fold (award_next settings moment r s) [] (enumerate_from 0 r.imps)
