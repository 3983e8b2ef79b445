-- What was found for a request among campaigns that were live, what was touched since, and what it costs to sell over it.
use Rattle.std.specs.Prelude.{◌≡◌, ◌↔◌, ℕ, ◌==◌, ◌&&◌, ◌||◌, nat_le, not, Bool, false, Contains, IsTrue, List, [], Some, filter, fold, length, slice_get, sum_by, take}
use Rattle.std.specs.List.{enumerate_from, flat_map, list_any, zip}
use Rattle.std.specs.Option.{option_map_or}
use Rattle.assign.specs.Rows.{pairs_of}
use Rattle.auction_core.specs.Auctions.{beside, offers_at}
use Rattle.auction_core.specs.Core.{CoreState, listed}
use Rattle.auction_core.specs.Draft.{found_for}
use Rattle.auction_core.specs.Payers.{pays}
use Rattle.auction_core.specs.Placed.{list_at}
use Rattle.campaign_store.specs.declared.listed.LiveRecord.{LiveRecord}
use Rattle.campaign_store.specs.Table.{live_records}
use Rattle.clearing.specs.Candidates.{asked, is_in_order}
use Rattle.clearing.specs.declared.Offer.{Offer}
use Rattle.deal_rules.specs.Offers.{candidates_of}
use Rattle.plain_exchange.specs.Auction.{Award, award_next}
use Rattle.plain_exchange.specs.State.{Campaign, State, campaign_at, swept}
use Rattle.rtb_types.specs.declared.request.BidRequest.{BidRequest}
use Rattle.rtb_types.specs.declared.request.Imp.{Imp}
use Rattle.target_expr.specs.Truth.{holds}

-- ---- candidates: the offers of live campaigns by all rules but those that ask what the sales so far leave them

-- the campaign's expression is true of the impression
abbrev pub is_true_of : BidRequest → Imp → LiveRecord → Bool
is_true_of r i c = holds (pairs_of r i) c.entry.expr

abbrev pub candidates_by : BidRequest → Imp → LiveRecord → List Offer
candidates_by r i c = candidates_of c.number r i c.entry.facts

-- of all of them
abbrev pub candidates_among : List LiveRecord → BidRequest → Imp → List Offer
candidates_among live r i = flat_map (candidates_by r i) (filter (is_true_of r i) live)

-- these are those candidates, in the order in which one beats the other
pub record AreCandidates (live : List LiveRecord) (r : BidRequest) (i : Imp) (cs : List Offer) : Type 0 where
  pub order : IsTrue (is_in_order cs)
  pub members : (o : Offer) → Contains cs o ↔ Contains (candidates_among live r i) o

-- they are so for each impression of the request
pub record AreFound (live : List LiveRecord) (r : BidRequest) (found : List (List Offer)) : Type 0 where
  pub long : length found ≡ length r.imps
  pub each : (k : ℕ) (i : Imp) (cs : List Offer) → slice_get r.imps k ≡ Some i → slice_get found k ≡ Some cs → AreCandidates live r i cs

-- ---- campaigns that were touched since

abbrev pub is_touched : List ℕ → ℕ → Bool
is_touched touched n = list_any (λ m. m == n) touched

-- a campaign that is not among them is live in the state exactly where it is one of these, with the same record
abbrev pub DifferAtMostIn : List ℕ → List LiveRecord → State → Type 0
DifferAtMostIn touched live s = (c : LiveRecord) → is_touched touched c.number ≡ false → Contains live c ↔ Contains (live_records (listed s)) c

-- what was found among campaigns that were live may be sold over, where these were touched since
pub record MaySell (s : State) (touched : List ℕ) (r : BidRequest) (found : List (List Offer)) : Type 0 where
  pub live : List LiveRecord
  pub differ : DifferAtMostIn touched live s
  pub found_are : AreFound live r found

-- the numbers of those that are live and true of the impression now, rising
abbrev pub touched_for : State → List ℕ → BidRequest → Imp → List ℕ
touched_for s touched r i = filter (is_touched touched) (found_for s r i)

-- these are those numbers, for each impression; none where a list is not there
abbrev pub AreTouched : State → List ℕ → BidRequest → List (List ℕ) → Type 0
AreTouched s touched r now = (k : ℕ) (i : Imp) → slice_get r.imps k ≡ Some i → list_at now k ≡ touched_for s touched r i

-- ---- what is asked where the impressions are sold

-- the awards of the first k impressions
abbrev pub awards_before : CoreState → BidRequest → ℕ → ℕ → List Award
awards_before core r moment k = fold (award_next core.settings moment r (swept moment core.state)) [] (take k (enumerate_from 0 r.imps))

-- beside these awards: a candidate of a campaign that was not touched may pay
abbrev pub may_be_sold : CoreState → List ℕ → BidRequest → ℕ → List Award → Offer → Bool
may_be_sold core touched r moment awards o = not (is_touched touched o.campaign) && pays core r moment awards o

-- the offers of the campaigns that were touched, by all rules
abbrev pub offers_touched : CoreState → List ℕ → BidRequest → Imp → ℕ → List Award → List Offer
offers_touched core touched r i moment awards = flat_map (offers_at (beside core.settings moment r core.state awards) r i moment) (touched_for core.state touched r i)

-- how many candidates are asked for the impression at a place, and for all
abbrev pub asked_at : CoreState → List ℕ → BidRequest → ℕ → ℕ × (Imp × List Offer) → ℕ
asked_at core touched r moment p = let awards = awards_before core r moment p.0 in asked (may_be_sold core touched r moment awards) (offers_touched core touched r p.1.0 moment awards) p.1.1

abbrev pub sold_cost : CoreState → List ℕ → BidRequest → ℕ → List (List Offer) → ℕ
sold_cost core touched r moment found = sum_by (asked_at core touched r moment) (enumerate_from 0 (zip r.imps found))

-- ---- Only private clauses cite what follows.

-- campaign n is there, and bids so
abbrev pub is_bid_of : State → ℕ → ℕ → Bool
is_bid_of s n bid = option_map_or (λ (c : Campaign). bid == c.facts.bid) (campaign_at s n) false

-- beside these awards, which are few, a candidate may be asked whose campaign was touched, or is there and bids so
abbrev pub may_be_asked : CoreState → List ℕ → List Award → Offer → Bool
may_be_asked core touched awards o = nat_le (length awards) 64 && (is_touched touched o.campaign || is_bid_of core.state o.campaign o.bid)
