-- The offers of one campaign for an impression, and why there is none.
use Rattle.std.specs.Prelude.{ℕ, ◌&&◌, nat_le, not, List, [], ◌∷◌, ◌++◌, Bool, false, Option, Some, None, find, option_map, if◌then◌else◌, map}
use Rattle.std.specs.List.{list_any, filter_map, enumerate_from}
use Rattle.std.specs.Option.{option_map_or}
use Rattle.campaign.specs.declared.parts.FactParts.{FactParts}
use Rattle.clearing.specs.declared.Offer.{Offer}
use Rattle.deal_rules.specs.declared.rule.Rule.{Rule}
use Rattle.deal_rules.specs.Rules.{Opportunity, Tested, allows, common_rules, has_text, is_over, is_usd, opportunity_of, public_rules, stated_rules}
use Rattle.rtb_types.specs.declared.request.BidRequest.{BidRequest}
use Rattle.rtb_types.specs.declared.request.Deal.{Deal}
use Rattle.rtb_types.specs.declared.request.Imp.{Imp}

-- whether some rule excludes, and the first that does
abbrev pub is_excluded : List Tested → Opportunity → Bool
is_excluded rules o = list_any (λ (r : Tested). r.1 o) rules

abbrev pub first_reason : List Tested → Opportunity → Option Rule
first_reason rules o = option_map (λ (r : Tested). r.0) (find (λ (r : Tested). r.1 o) rules)

-- the campaign lists the deal (3.2.12), which is in US dollars, is open to its seat and its advertiser, and
-- has a floor that its bid meets
abbrev pub is_open_to : FactParts → Deal → Bool
is_open_to f deal = has_text f.deals deal.id && (is_usd deal.currency && (allows deal.wseat f.seat && (allows deal.wadomain f.adomain && nat_le deal.floor f.bid)))

-- ---- offers of the campaign with that number

abbrev pub offer_in : ℕ → FactParts → ℕ → Offer
offer_in number f pool = record { campaign = number; bid = f.bid; pool = pool }

-- in the public pool, which is pool 0
abbrev pub public_offers : ℕ → Opportunity → List Offer
public_offers number o = if is_excluded public_rules o then [] else offer_in number o.facts 0 ∷ []

-- in the pools of the deals that are open to it: those of the first deal on are pools 1, 2, ..
abbrev pub deal_offer : ℕ → FactParts → ℕ × Deal → Option Offer
deal_offer number f p = if is_open_to f p.1 then Some (offer_in number f p.0) else None

abbrev pub deal_offers : ℕ → FactParts → List Deal → List Offer
deal_offers number f deals = filter_map (deal_offer number f) (enumerate_from 1 deals)

-- the offer in the public pool, where there is one
abbrev pub in_public : ℕ → FactParts → Bool → List Offer
in_public number f public = if public then offer_in number f 0 ∷ [] else []

-- the campaign has the id of one; else there is no offer for one
abbrev pub has_deals : FactParts → Imp → Bool
has_deals f imp = list_any (has_text (map (λ (d : Deal). d.id) imp.pmp.deals)) f.deals

unfoldable pub offers_of : ℕ → Opportunity → List Offer
offers_of number o = if is_excluded common_rules o then [] else public_offers number o ++ deal_offers number o.facts o.imp.pmp.deals

-- ---- candidates: its offers by all rules but those that ask what the sales so far leave it

unfoldable pub candidates_of : ℕ → BidRequest → Imp → FactParts → List Offer
candidates_of number r imp f = let o = opportunity_of r imp f 0 None in if is_excluded stated_rules o then [] else public_offers number o ++ deal_offers number f imp.pmp.deals

-- whether those rules let it: its budget has the bid free, and its cap a sale to the user
unfoldable pub may_pay : FactParts → ℕ → Option ℕ → Bool
may_pay f free shown = nat_le f.bid free && not (option_map_or (is_over shown) f.cap false)

-- ---- why there is none: the first rule that excludes, where those of the public pool count only for a
-- campaign that no deal is open to

unfoldable pub why_not_of : Opportunity → Option Rule
why_not_of o = first_reason (if list_any (is_open_to o.facts) o.imp.pmp.deals then common_rules else common_rules ++ public_rules) o
