-- The rules that keep a campaign from an impression, as one list (OpenRTB 2.5, sections 3.2.1 to 3.2.12).
use Rattle.std.specs.Prelude.{ℕ, ◌==◌, ◌&&◌, ◌||◌, not, nat_lt, nat_le, List, [], ◌∷◌, length, map, Bool, true, false, Option, Some, None, is_none, codes, ℤ}
use Rattle.std.specs.List.{list_any}
use Rattle.std.specs.Option.{option_map_or}
use Rattle.std.specs.Ordering.{int_eq}
use Rattle.std.specs.Str.{bytes_eq}
use Rattle.campaign.specs.declared.parts.FactParts.{FactParts}
use Rattle.campaign.specs.Caps.{CapTerms}
use Rattle.campaign.specs.Kept.{size_of}
use Rattle.deal_rules.specs.declared.rule.Rule.{Rule}
use Rattle.deal_rules.specs.declared.rule.Rule.TheVariants.{Request, NoBanner, Size, Attribute, Secure, SeatNotAllowed, SeatBlocked, Category, Advertiser, Budget, Capped, Private, Currency, Floor}
use Rattle.rtb_types.specs.declared.request.Banner.{Banner}
use Rattle.rtb_types.specs.declared.request.BidRequest.{BidRequest}
use Rattle.rtb_types.specs.declared.request.Imp.{Imp}
use Rattle.rtb_types.specs.declared.request.Size.{Size as Sides}

-- What the rules look at: a request and one of its impressions, what the campaign states, how many
-- nano-dollars of its budget are free, and, where the request has a user, how many of the campaign's sales
-- to that user count for its cap.
pub record Opportunity : Type 0 where
  pub request : BidRequest
  pub imp : Imp
  pub facts : FactParts
  pub free : ℕ
  pub shown : Option ℕ

abbrev pub opportunity_of : BidRequest → Imp → FactParts → ℕ → Option ℕ → Opportunity
opportunity_of request imp facts free shown = record { request = request; imp = imp; facts = facts; free = free; shown = shown }

-- ---- lists of texts, which are compared byte for byte

abbrev pub has_text : List (List ℕ) → List ℕ → Bool
has_text texts text = list_any (λ t. bytes_eq t text) texts

-- those that are allowed; all where the list is empty
abbrev pub allows : List (List ℕ) → List ℕ → Bool
allows texts text = (length texts == 0) || has_text texts text

abbrev pub is_usd : List ℕ → Bool
is_usd currency = bytes_eq currency (codes "USD")

-- ---- the banner (3.2.6): its sizes and the attributes that it blocks, or none

abbrev pub sizes_of : Imp → List Sides
sizes_of imp = option_map_or (λ (b : Banner). b.sizes) imp.banner []

abbrev pub blocked_attributes_of : Imp → List ℤ
blocked_attributes_of imp = option_map_or (λ (b : Banner). b.battr) imp.banner []

-- whether these are its sides
abbrev pub is_size : ℤ × ℤ → Sides → Bool
is_size p s = int_eq s.w p.0 && int_eq s.h p.1

-- a banner without a size takes each creative
abbrev pub takes_size : List Sides → ℤ × ℤ → Bool
takes_size sizes p = (length sizes == 0) || list_any (is_size p) sizes

-- ---- a campaign's cap

-- whether so many sales to a user are too many; where there is no user, none can be counted
abbrev pub is_over : Option ℕ → CapTerms → Bool
is_over None cap = true
is_over (Some shown) cap = nat_le cap.count shown

-- ---- the request

-- it sells nothing, or not for US dollars
abbrev pub is_closed : BidRequest → Bool
is_closed r = r.test || not (allows r.cur (codes "USD"))

-- it has no deal, and nobody may buy in its public pool
abbrev pub is_without_pool : Imp → Bool
is_without_pool imp = (length imp.pmp.deals == 0) && (imp.pmp.private_auction || not (is_usd imp.currency))

-- or asks for no banner, or has no pool in which somebody may buy
abbrev pub is_closed_for : BidRequest → Imp → Bool
is_closed_for r imp = is_closed r || (is_none imp.banner || is_without_pool imp)

-- no list of it is against the campaign
abbrev pub takes : BidRequest → FactParts → Bool
takes r f = allows r.wseat f.seat && (not (has_text r.bseat f.seat) && (not (list_any (has_text r.bcat) f.cat) && not (has_text r.badv f.adomain)))

-- ---- the rules

-- whether the rule excludes
abbrev pub test_of : Rule → Opportunity → Bool
test_of Request o = is_closed o.request
test_of NoBanner o = is_none o.imp.banner
test_of Size o = option_map_or (λ p. not (takes_size (sizes_of o.imp) p)) (size_of o.facts) false
test_of Attribute o = list_any (λ a. list_any (λ b. int_eq b a) (blocked_attributes_of o.imp)) o.facts.attr
test_of Secure o = o.imp.secure && not o.facts.secure
test_of SeatNotAllowed o = not (allows o.request.wseat o.facts.seat)
test_of SeatBlocked o = has_text o.request.bseat o.facts.seat
test_of Category o = list_any (has_text o.request.bcat) o.facts.cat
test_of Advertiser o = has_text o.request.badv o.facts.adomain
test_of Budget o = nat_lt o.free o.facts.bid
test_of Capped o = option_map_or (is_over o.shown) o.facts.cap false
test_of Private o = o.imp.pmp.private_auction
test_of Currency o = not (is_usd o.imp.currency)
test_of Floor o = nat_lt o.facts.bid o.imp.floor

-- a rule, and whether it excludes
abbrev pub Tested : Type 0
Tested = Rule × (Opportunity → Bool)

abbrev pub tested : List Rule → List Tested
tested rules = map (λ (r : Rule). (r, test_of r)) rules

-- for each pool, in their order
unfoldable pub common_rules : List Tested
common_rules = tested (Request ∷ NoBanner ∷ Size ∷ Attribute ∷ Secure ∷ SeatNotAllowed ∷ SeatBlocked ∷ Category ∷ Advertiser ∷ Budget ∷ Capped ∷ [])

-- of those the ones that ask the request and what the campaign states alone, and those that ask what the sales so far
-- leave it
unfoldable pub stated_rules : List Tested
stated_rules = tested (Request ∷ NoBanner ∷ Size ∷ Attribute ∷ Secure ∷ SeatNotAllowed ∷ SeatBlocked ∷ Category ∷ Advertiser ∷ [])

unfoldable pub paying_rules : List Tested
paying_rules = tested (Budget ∷ Capped ∷ [])

-- for the public pool alone
unfoldable pub public_rules : List Tested
public_rules = tested (Private ∷ Currency ∷ Floor ∷ [])
