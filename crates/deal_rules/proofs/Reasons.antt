-- A campaign has no offer exactly where a rule says why.
use Rattle.std.proofs.Common.{◌≡◌, ℕ, ◌+◌, ◌<◌, ◌||◌, not, List, [], ◌∷◌, ◌++◌, length, Bool, true, false, cond, Option, None, Some, find, is_some, option_map, refl, sym, ap, ◌∙◌, arith}
use Rattle.std.specs.Prelude.{◌↔◌, IsNone}
use Rattle.std.specs.List.{list_any, cons_option, enumerate_from, filter_map}
use Rattle.std.proofs.lemmas.List.Folds.{list_any-append}
use Rattle.campaign.specs.declared.parts.FactParts.{FactParts}
use Rattle.clearing.specs.declared.Offer.{Offer}
use Rattle.deal_rules.specs.Offers.{deal_offer, deal_offers, first_reason, is_excluded, is_open_to, offer_in, offers_of, why_not_of}
use Rattle.deal_rules.specs.Rules.{Opportunity, Tested, common_rules, public_rules}
use Rattle.rtb_types.specs.declared.request.Deal.{Deal}

-- whether there is an offer
abbrev is_filled : List Offer → Bool
is_filled [] = false
is_filled (x ∷ xs) = true

-- a rule is named exactly where one excludes
named : (o : Opportunity) (rules : List Tested) → is_some (first_reason rules o) ≡ is_excluded rules o
named o [] = refl
named o (r ∷ rules) = by_test (r.1 o) r (find (λ (t : Tested). t.1 o) rules) (is_excluded rules o) (named o rules)
  where
    by_test : (b : Bool) (r : Tested) (rest : Option Tested) (c : Bool) → is_some (option_map (λ (t : Tested). t.0) rest) ≡ c
        → is_some (option_map (λ (t : Tested). t.0) (cond b (Some r) rest)) ≡ (b || c)
    by_test true r rest c e = refl
    by_test false r rest c e = e

-- there is an offer for a deal exactly where one is open
dealt : (number : ℕ) (f : FactParts) (deals : List Deal) (n : ℕ) → is_filled (filter_map (deal_offer number f) (enumerate_from n deals)) ≡ list_any (is_open_to f) deals
dealt number f [] n = refl
dealt number f (d ∷ deals) n = by_test (is_open_to f d) (offer_in number f n) (filter_map (deal_offer number f) (enumerate_from (n + 1) deals)) (list_any (is_open_to f) deals) (dealt number f deals (n + 1))
  where
    by_test : (b : Bool) (x : Offer) (rest : List Offer) (c : Bool) → is_filled rest ≡ c → is_filled (cons_option (cond b (Some x) None) rest) ≡ (b || c)
    by_test true x rest c e = refl
    by_test false x rest c e = e

-- the four cases: some rule of each pool excludes or none, and so for the public pool
open_deal : (common public : Bool) (x : Offer) (deals : List Offer) → is_filled deals ≡ true → not common ≡ is_filled (cond common [] (cond public [] (x ∷ []) ++ deals))
open_deal true public x deals e = refl
open_deal false true x deals e = sym e
open_deal false false x deals e = refl

no_deal : (common public : Bool) (x : Offer) (deals : List Offer) → is_filled deals ≡ false → not (common || public) ≡ is_filled (cond common [] (cond public [] (x ∷ []) ++ deals))
no_deal true public x deals e = refl
no_deal false true x deals e = sym e
no_deal false false x deals e = refl

reason : (o : Opportunity) (x : Offer) (deals : List Offer) (b : Bool) → is_filled deals ≡ b
    → not (is_excluded (cond b common_rules (common_rules ++ public_rules)) o) ≡ is_filled (cond (is_excluded common_rules o) [] (cond (is_excluded public_rules o) [] (x ∷ []) ++ deals))
reason o x deals true e = open_deal (is_excluded common_rules o) (is_excluded public_rules o) x deals e
reason o x deals false e =
    ap not (list_any-append (λ (t : Tested). t.1 o) common_rules public_rules) ∙ no_deal (is_excluded common_rules o) (is_excluded public_rules o) x deals e

some_offer : (number : ℕ) (o : Opportunity) → not (is_some (why_not_of o)) ≡ is_filled (offers_of number o)
unfolding offers_of why_not_of
some_offer number o =
    let b = list_any (is_open_to o.facts) o.imp.pmp.deals in
    ap not (named o (cond b common_rules (common_rules ++ public_rules)))
    ∙ reason o (offer_in number o.facts 0) (deal_offers number o.facts o.imp.pmp.deals) b (dealt number o.facts o.imp.pmp.deals 1)

filled_length : (xs : List Offer) → is_filled xs ≡ true → 0 < length xs
filled_length [] e = cc
filled_length (x ∷ xs) e = omega arith

length_filled : (xs : List Offer) → 0 < length xs → is_filled xs ≡ true
length_filled [] lt = absurd (omega arith)
length_filled (x ∷ xs) lt = refl

not_true : (a b : Bool) → not a ≡ b → a ≡ false → b ≡ true
not_true true b e h = cc
not_true false b e h = sym e

true_not : (a b : Bool) → not a ≡ b → b ≡ true → a ≡ false
true_not true b e h = cc
true_not false b e h = refl

pub offered : (number : ℕ) (o : Opportunity) → IsNone (why_not_of o) ↔ (0 < length (offers_of number o))
offered number o = (
  λ none. filled_length (offers_of number o) (not_true (is_some (why_not_of o)) (is_filled (offers_of number o)) (some_offer number o) none),
  λ lt. true_not (is_some (why_not_of o)) (is_filled (offers_of number o)) (some_offer number o) (length_filled (offers_of number o) lt),
)
