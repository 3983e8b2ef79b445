-- Which candidates may pay beside awards of the same request.
use Rattle.std.specs.Prelude.{ℕ, Bool, false, List, option_map}
use Rattle.std.specs.Option.{option_map_or}
use Rattle.auction_core.specs.Auctions.{beside}
use Rattle.auction_core.specs.Core.{CoreState}
use Rattle.clearing.specs.declared.Offer.{Offer}
use Rattle.deal_rules.specs.Offers.{may_pay}
use Rattle.deal_rules.specs.Terms.{user_of}
use Rattle.plain_exchange.specs.Auction.{Award, shown_to}
use Rattle.plain_exchange.specs.State.{Campaign, State, campaign_at, free}
use Rattle.rtb_types.specs.declared.request.BidRequest.{BidRequest}

-- in the state, campaign n may pay
abbrev pub pays_as : State → BidRequest → ℕ → ℕ → Campaign → Bool
pays_as s r moment n c = may_pay c.facts (free s n c) (option_map (shown_to s moment n c) (user_of r))

-- the candidate's campaign may pay beside these awards
abbrev pub pays : CoreState → BidRequest → ℕ → List Award → Offer → Bool
pays core r moment awards o = option_map_or (pays_as (beside core.settings moment r core.state awards) r moment o.campaign) (campaign_at core.state o.campaign) false
