-- Each offer's bid is at least the floor of its pool.
use Rattle.std.proofs.Common.{◌≡◌, ℕ, ◌+◌, nat_le, ◌&&◌, ◌||◌, not, List, [], ◌∷◌, ◌++◌, length, map, Bool, true, false, cond, Option, None, Some, slice_get, refl, ap, subst, ◌∙◌, arith}
use Rattle.std.specs.Prelude.{IsTrue, nat_lt}
use Rattle.std.specs.List.{list_all, cons_option, enumerate_from, filter_map}
use Rattle.std.specs.Option.{option_map_or}
use Rattle.std.proofs.lemmas.Bool.Decides.{nat_tests}
use Rattle.std.proofs.lemmas.List.{append_assoc, length-append}
use Rattle.std.proofs.lemmas.List.Folds.{list_all-append}
use Rattle.campaign.specs.declared.parts.FactParts.{FactParts}
use Rattle.clearing.specs.Clearing.{is_fit}
use Rattle.clearing.specs.declared.Offer.{Offer}
use Rattle.clearing.specs.declared.Terms.{Terms}
use Rattle.deal_rules.specs.Offers.{candidates_of, deal_offer, deal_offers, is_excluded, is_open_to, offer_in, offers_of, public_offers}
use Rattle.deal_rules.specs.Rules.{allows, common_rules, has_text, is_usd, opportunity_of, public_rules, stated_rules}
use Rattle.deal_rules.specs.Terms.{deal_terms, terms_at, terms_of}
use Rattle.rtb_types.specs.declared.request.BidRequest.{BidRequest}
use Rattle.rtb_types.specs.declared.request.Deal.{Deal}
use Rattle.rtb_types.specs.declared.request.Imp.{Imp}

-- ---- the public pool

met : (floor bid : ℕ) → nat_lt bid floor ≡ false → nat_le floor bid ≡ true
met floor bid e = grind (arith, nat_tests)

-- the offer in the public pool, by the tests of its rules
public_fits : (floor : Terms) (rest : List Terms) (o : Offer) → o.pool ≡ 0 → (a b c : Bool) → (c ≡ false → nat_le floor.floor o.bid ≡ true)
    → list_all (is_fit (floor ∷ rest)) (cond (a || (b || (c || false))) [] (o ∷ [])) ≡ true
public_fits t rest o pool true b c h = refl
public_fits t rest o pool false true c h = refl
public_fits t rest o pool false false true h = refl
public_fits t rest o pool false false false h =
    ap (λ (k : ℕ). option_map_or (λ (u : Terms). nat_le u.floor o.bid) (slice_get (t ∷ rest) k) false && true) pool ∙ ap (λ b. b && true) (h refl)

-- ---- the pools of deals

at_end_of : {A : Type 0} (front back : List A) (x : A) → slice_get (front ++ x ∷ back) (length front) ≡ Some x
at_end_of [] back x = refl
at_end_of (y ∷ front) back x = at_end_of front back x

last_of : (a b c d e : Bool) → (a && (b && (c && (d && e)))) ≡ true → e ≡ true
last_of true true true true e h = h
last_of true true true false e h = cc
last_of true true false d e h = cc
last_of true false c d e h = cc
last_of false b c d e h = cc

-- one deal more
fits_more : (terms : List Terms) (b : Bool) (o : Offer) (rest : List Offer) → (b ≡ true → is_fit terms o ≡ true) → list_all (is_fit terms) rest ≡ true
    → list_all (is_fit terms) (cons_option (cond b (Some o) None) rest) ≡ true
fits_more terms true o rest h all = ap (λ b. b && list_all (is_fit terms) rest) (h refl) ∙ all
fits_more terms false o rest h all = all

deal_fits : (number : ℕ) (f : FactParts) (front back : List Terms) (deal : Deal) → is_open_to f deal ≡ true → is_fit (front ++ deal_terms deal ∷ back) (offer_in number f (length front)) ≡ true
deal_fits number f front back deal e =
    ap (λ t. option_map_or (λ (u : Terms). nat_le u.floor f.bid) t false) (at_end_of front back (deal_terms deal))
    ∙ last_of (has_text f.deals deal.id) (is_usd deal.currency) (allows deal.wseat f.seat) (allows deal.wadomain f.adomain) (nat_le deal.floor f.bid) e

-- the pools of these deals stand behind those in front
deals_fit : (number : ℕ) (f : FactParts) (front : List Terms) (deals : List Deal) → (n : ℕ) → n ≡ length front
    → list_all (is_fit (front ++ map deal_terms deals)) (filter_map (deal_offer number f) (enumerate_from n deals)) ≡ true
deals_fit number f front [] n e = refl
deals_fit number f front (d ∷ deals) n e =
    fits_more (front ++ deal_terms d ∷ map deal_terms deals) (is_open_to f d) (offer_in number f n) (filter_map (deal_offer number f) (enumerate_from (n + 1) deals))
    (λ is_open. ap (λ k. is_fit (front ++ deal_terms d ∷ map deal_terms deals) (offer_in number f k)) e ∙ deal_fits number f front (map deal_terms deals) d is_open)
    (subst (λ terms. list_all (is_fit terms) (filter_map (deal_offer number f) (enumerate_from (n + 1) deals)) ≡ true)
    (append_assoc front (deal_terms d ∷ []) (map deal_terms deals))
    (deals_fit number f (front ++ deal_terms d ∷ []) deals (n + 1) (omega (arith, e, length-append front (deal_terms d ∷ [])))))

-- ---- all pools

fits_either : (terms : List Terms) (b : Bool) (offers : List Offer) → list_all (is_fit terms) offers ≡ true → list_all (is_fit terms) (cond b [] offers) ≡ true
fits_either terms true offers e = refl
fits_either terms false offers e = e

both : (a b : Bool) → a ≡ true → b ≡ true → (a && b) ≡ true
both a b h k = ap (λ c. c && b) h ∙ k

pub offers_fit : (number : ℕ) (r : BidRequest) (i : Imp) (f : FactParts) (free : ℕ) (shown : Option ℕ)
    → IsTrue (list_all (is_fit (terms_of r i)) (offers_of number (opportunity_of r i f free shown)))
unfolding offers_of terms_of public_rules
offers_fit number r i f free shown =
    let o = opportunity_of r i f free shown in
    let floor = terms_at i.floor r.at in
    let terms = floor ∷ map deal_terms i.pmp.deals in
    fits_either terms (is_excluded common_rules o) (public_offers number o ++ deal_offers number f i.pmp.deals)
    (list_all-append (is_fit terms) (public_offers number o) (deal_offers number f i.pmp.deals)
    ∙ both (list_all (is_fit terms) (public_offers number o)) (list_all (is_fit terms) (deal_offers number f i.pmp.deals))
    (public_fits floor (map deal_terms i.pmp.deals) (offer_in number f 0) refl i.pmp.private_auction (not (is_usd i.currency)) (nat_lt f.bid i.floor) (met i.floor f.bid))
    (deals_fit number f (floor ∷ []) i.pmp.deals 1 refl))

pub candidates_fit : (number : ℕ) (r : BidRequest) (i : Imp) (f : FactParts) → IsTrue (list_all (is_fit (terms_of r i)) (candidates_of number r i f))
unfolding candidates_of terms_of public_rules
candidates_fit number r i f =
    let o = opportunity_of r i f 0 None in
    let floor = terms_at i.floor r.at in
    let terms = floor ∷ map deal_terms i.pmp.deals in
    fits_either terms (is_excluded stated_rules o) (public_offers number o ++ deal_offers number f i.pmp.deals)
    (list_all-append (is_fit terms) (public_offers number o) (deal_offers number f i.pmp.deals)
    ∙ both (list_all (is_fit terms) (public_offers number o)) (list_all (is_fit terms) (deal_offers number f i.pmp.deals))
    (public_fits floor (map deal_terms i.pmp.deals) (offer_in number f 0) refl i.pmp.private_auction (not (is_usd i.currency)) (nat_lt f.bid i.floor) (met i.floor f.bid))
    (deals_fit number f (floor ∷ []) i.pmp.deals 1 refl))
