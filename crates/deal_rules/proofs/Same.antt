-- Impressions that are the same but for their ids, and those that the rules cannot tell apart.
use Rattle.std.proofs.Common.{◌≡◌, ◌&&◌, ◌||◌, ◌++◌, ℕ, ℤ, List, [], ◌∷◌, Bool, false, not, cond, length, Option, Some, None, ap, refl, sym, ◌∙◌}
use Rattle.std.specs.Prelude.{◌==◌, is_none, nat_lt}
use Rattle.std.specs.List.{list_any}
use Rattle.std.specs.Option.{option_map_or}
use Rattle.std.specs.Ordering.{int_eq}
use Rattle.std.proofs.lemmas.Bool.{false≢true}
use Rattle.campaign.specs.declared.parts.FactParts.{FactParts}
use Rattle.campaign.specs.Kept.{size_of}
use Rattle.clearing.specs.declared.Offer.{Offer}
use Rattle.deal_rules.specs.Alike.{AreRuledAlike, position_of}
use Rattle.deal_rules.specs.Offers.{candidates_of, deal_offers, offer_in}
use Rattle.deal_rules.specs.Rules.{allows, blocked_attributes_of, has_text, is_closed, is_closed_for, is_usd, public_rules, sizes_of, stated_rules, takes_size}
use Rattle.rtb_types.specs.declared.request.Banner.{Banner}
use Rattle.rtb_types.specs.declared.request.BidRequest.{BidRequest}
use Rattle.rtb_types.specs.declared.request.Deal.{Deal}
use Rattle.rtb_types.specs.declared.request.Imp.{Imp}
use Rattle.rtb_types.specs.declared.request.Size.{Size}

-- ---- the same but for the id

same_parts : (a b : Banner) → a.sizes ≡ b.sizes → a.battr ≡ b.battr → a.pos ≡ b.pos → a ≡ b
same_parts a b sizes battr pos =
    ap (λ (x : List Size). record a { sizes = x }) sizes ∙ ap (λ (x : List ℤ). record a { sizes = b.sizes; battr = x }) battr ∙ ap (λ (x : Option ℤ). record b { pos = x }) pos

-- a banner by what the rules look at, and where it stands
abbrev with_banner : Imp → Option Banner → Imp
with_banner i banner = record i { banner = banner }

same_banner : (i : Imp) (a b : Option Banner) → is_none a ≡ is_none b → sizes_of (with_banner i a) ≡ sizes_of (with_banner i b) → blocked_attributes_of (with_banner i a) ≡ blocked_attributes_of (with_banner i b)
    → position_of (with_banner i a) ≡ position_of (with_banner i b) → a ≡ b
same_banner i None None there sizes battr pos = refl
same_banner i None (Some b) there sizes battr pos = absurd (false≢true (sym there))
same_banner i (Some a) None there sizes battr pos = absurd (false≢true there)
same_banner i (Some a) (Some b) there sizes battr pos = ap (λ (x : Banner). Some x) (same_parts a b sizes battr pos)

pub alike : (a b : Imp) → AreRuledAlike a b → a.tagid ≡ b.tagid → position_of a ≡ position_of b → a ≡ record b { id = a.id }
alike a b same tagid pos =
    let banner = same_banner b a.banner b.banner same.there same.sizes same.attributes pos in
    ap (λ (x : Bool). record a { secure = x }) same.secure
    ∙ ap (λ (x : ℕ). record a { secure = b.secure; floor = x }) same.floor
    ∙ ap (λ (x : List ℕ). record a { secure = b.secure; floor = b.floor; currency = x }) same.currency
    ∙ ap (λ (x : Option (List ℕ)). record a { secure = b.secure; floor = b.floor; currency = b.currency; tagid = x }) tagid
    ∙ ap (λ (x : Option Banner). record a { secure = b.secure; floor = b.floor; currency = b.currency; tagid = b.tagid; banner = x }) banner
    ∙ ap (λ (x : Bool). record b { id = a.id; pmp = record { private_auction = x; deals = a.pmp.deals } }) same.private
    ∙ ap (λ (x : List Deal). record b { id = a.id; pmp = record { private_auction = b.pmp.private_auction; deals = x } }) same.deals

pub same_deal : (a b : Deal) → a.floor ≡ b.floor → a.at ≡ b.at → a.id ≡ b.id → a.currency ≡ b.currency → a.wseat ≡ b.wseat → a.wadomain ≡ b.wadomain → a ≡ b
same_deal a b floor at id currency wseat wadomain =
    ap (λ (x : ℕ). record a { floor = x }) floor
    ∙ ap (λ (x : ℕ). record a { floor = b.floor; at = x }) at
    ∙ ap (λ (x : List ℕ). record a { floor = b.floor; at = b.at; id = x }) id
    ∙ ap (λ (x : List ℕ). record a { floor = b.floor; at = b.at; id = b.id; currency = x }) currency
    ∙ ap (λ (x : List (List ℕ)). record a { floor = b.floor; at = b.at; id = b.id; currency = b.currency; wseat = x }) wseat
    ∙ ap (λ (x : List (List ℕ)). record b { wadomain = x }) wadomain

-- ---- the candidates, by what the rules look at

abbrev ruled : ℕ → BidRequest → FactParts → Bool → List Size → List ℤ → Bool → ℕ → List ℕ → Bool → List Deal → List Offer
ruled n r f none sizes attributes secure floor currency private deals =
    cond (is_closed r
    || (none || (option_map_or (λ p. not (takes_size sizes p)) (size_of f) false || (list_any (λ a. list_any (λ b. int_eq b a) attributes) f.attr || ((secure && not f.secure)
    || (not (allows r.wseat f.seat) || (has_text r.bseat f.seat || (list_any (has_text r.bcat) f.cat || (has_text r.badv f.adomain || false)))))))))
    [] (cond (private || (not (is_usd currency) || (nat_lt f.bid floor || false))) [] (offer_in n f 0 ∷ []) ++ deal_offers n f deals)

as_ruled : (n : ℕ) (r : BidRequest) (i : Imp) (f : FactParts) → candidates_of n r i f ≡ ruled n r f (is_none i.banner) (sizes_of i) (blocked_attributes_of i) i.secure i.floor i.currency i.pmp.private_auction i.pmp.deals
unfolding candidates_of stated_rules public_rules
as_ruled n r i f = refl

pub ruled_alike : (n : ℕ) (r : BidRequest) (i j : Imp) (f : FactParts) → AreRuledAlike j i → candidates_of n r j f ≡ candidates_of n r i f
ruled_alike n r i j f same =
    as_ruled n r j f
    ∙ ap (λ x. ruled n r f x (sizes_of j) (blocked_attributes_of j) j.secure j.floor j.currency j.pmp.private_auction j.pmp.deals) same.there
    ∙ ap (λ x. ruled n r f (is_none i.banner) x (blocked_attributes_of j) j.secure j.floor j.currency j.pmp.private_auction j.pmp.deals) same.sizes
    ∙ ap (λ x. ruled n r f (is_none i.banner) (sizes_of i) x j.secure j.floor j.currency j.pmp.private_auction j.pmp.deals) same.attributes
    ∙ ap (λ x. ruled n r f (is_none i.banner) (sizes_of i) (blocked_attributes_of i) x j.floor j.currency j.pmp.private_auction j.pmp.deals) same.secure
    ∙ ap (λ x. ruled n r f (is_none i.banner) (sizes_of i) (blocked_attributes_of i) i.secure x j.currency j.pmp.private_auction j.pmp.deals) same.floor
    ∙ ap (λ x. ruled n r f (is_none i.banner) (sizes_of i) (blocked_attributes_of i) i.secure i.floor x j.pmp.private_auction j.pmp.deals) same.currency
    ∙ ap (λ x. ruled n r f (is_none i.banner) (sizes_of i) (blocked_attributes_of i) i.secure i.floor i.currency x j.pmp.deals) same.private
    ∙ ap (λ x. ruled n r f (is_none i.banner) (sizes_of i) (blocked_attributes_of i) i.secure i.floor i.currency i.pmp.private_auction x) same.deals
    ∙ sym (as_ruled n r i f)

-- ---- whether it is closed

abbrev closed_by : BidRequest → Bool → List Deal → Bool → List ℕ → Bool
closed_by r none deals private currency = is_closed r || (none || ((length deals == 0) && (private || not (is_usd currency))))

pub closed_alike : (r : BidRequest) (i j : Imp) → AreRuledAlike j i → is_closed_for r j ≡ is_closed_for r i
closed_alike r i j same =
    ap (λ x. closed_by r x j.pmp.deals j.pmp.private_auction j.currency) same.there
    ∙ ap (λ x. closed_by r (is_none i.banner) x j.pmp.private_auction j.currency) same.deals
    ∙ ap (λ x. closed_by r (is_none i.banner) i.pmp.deals x j.currency) same.private
    ∙ ap (λ x. closed_by r (is_none i.banner) i.pmp.deals i.pmp.private_auction x) same.currency
