-- A campaign that bids below the floor of an impression without deals has no offer.
use Rattle.std.proofs.Common.{◌≡◌, ℕ, ◌==◌, ◌&&◌, ◌||◌, not, List, [], ◌∷◌, ◌++◌, length, Bool, true, false, cond, Option, refl, ap, ◌∙◌, arith}
use Rattle.std.specs.Prelude.{nat_lt}
use Rattle.std.proofs.lemmas.Bool.Decides.{nat_tests}
use Rattle.std.proofs.lemmas.List.{nil_from_length}
use Rattle.campaign.specs.declared.parts.FactParts.{FactParts}
use Rattle.clearing.specs.declared.Offer.{Offer}
use Rattle.deal_rules.specs.Offers.{deal_offers, is_excluded, offer_in, offers_of, public_offers}
use Rattle.deal_rules.specs.Rules.{common_rules, is_usd, opportunity_of, public_rules}
use Rattle.rtb_types.specs.declared.request.BidRequest.{BidRequest}
use Rattle.rtb_types.specs.declared.request.Imp.{Imp}

-- the last of the rules for the public pool excludes
last_excludes : (a b c : Bool) (offers : List Offer) → c ≡ true → cond (a || (b || (c || false))) [] offers ≡ []
last_excludes true b c offers e = refl
last_excludes false true c offers e = refl
last_excludes false false true offers e = refl
last_excludes false false false offers e = cc

none_either : (b : Bool) (offers : List Offer) → offers ≡ [] → cond b [] offers ≡ []
none_either true offers e = refl
none_either false offers e = e

first_of : (a b : Bool) → (a && b) ≡ true → a ≡ true
first_of true b e = refl
first_of false b e = cc

second_of : (a b : Bool) → (a && b) ≡ true → b ≡ true
second_of true b e = e
second_of false b e = cc

zero_of : (n : ℕ) → (n == 0) ≡ true → n ≡ 0
zero_of n e = grind (arith, nat_tests)

empty_of : {A : Type 0} (xs : List A) → (length xs == 0) ≡ true → xs ≡ []
empty_of xs e = nil_from_length xs (zero_of (length xs) e)

pub none_below : (n : ℕ) (r : BidRequest) (i : Imp) (f : FactParts) (free : ℕ) (shown : Option ℕ)
    → (nat_lt f.bid i.floor && (length i.pmp.deals == 0)) ≡ true → offers_of n (opportunity_of r i f free shown) ≡ []
unfolding offers_of public_rules
none_below n r i f free shown e =
    let o = opportunity_of r i f free shown in
    let below = first_of (nat_lt f.bid i.floor) (length i.pmp.deals == 0) e in
    let none = empty_of i.pmp.deals (second_of (nat_lt f.bid i.floor) (length i.pmp.deals == 0) e) in
    none_either (is_excluded common_rules o) (public_offers n o ++ deal_offers n f i.pmp.deals)
    (ap (λ l. l ++ deal_offers n f i.pmp.deals) (last_excludes i.pmp.private_auction (not (is_usd i.currency)) (nat_lt f.bid i.floor) (offer_in n f 0 ∷ []) below)
    ∙ ap (λ deals. [] ++ deal_offers n f deals) none)
