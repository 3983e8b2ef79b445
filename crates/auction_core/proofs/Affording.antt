-- Which candidates may pay, by what the exchange has of their campaigns.
use Rattle.std.proofs.Common.{◌≡◌, ◌&&◌, ℕ, Bool, true, false, not, cond, eqb, Equal, Greater, Less, Option, ap, arith, is_lt, nat_cmp, nat_le, option_map, refl, sym, ◌∙◌}
use Rattle.std.specs.Prelude.{nat_lt}
use Rattle.std.specs.Option.{option_map_or}
use Rattle.std.proofs.lemmas.Bool.Decides.{nat_tests}
use Rattle.campaign.specs.declared.parts.FactParts.{FactParts}
use Rattle.deal_rules.specs.Offers.{may_pay}
use Rattle.deal_rules.specs.Rules.{is_over}
use Rattle.deal_rules.specs.Terms.{user_of}
use Rattle.plain_exchange.specs.Auction.{shown_to}
use Rattle.plain_exchange.specs.State.{Campaign, State, free}
use Rattle.rtb_types.specs.declared.request.BidRequest.{BidRequest}
use Rattle.auction_core.specs.Payers.{pays_as}

pub paid_as : (t : State) (r : BidRequest) (m n : ℕ) (c : Campaign) (facts : FactParts) (left : ℕ) (shown : Option ℕ) → facts ≡ c.facts → left ≡ free t n c → shown ≡ option_map (shown_to t m n c) (user_of r)
    → may_pay facts left shown ≡ pays_as t r m n c
paid_as t r m n c facts left shown e f g =
    ap (λ (x : FactParts). may_pay x left shown) e
    ∙ ap (λ (x : ℕ). may_pay c.facts x shown) f
    ∙ ap (λ (x : Option ℕ). may_pay c.facts (free t n c) x) g

told_less : (p q : Bool) → is_lt (cond p Less (cond q Equal Greater)) ≡ p
told_less true q = refl
told_less false true = refl
told_less false false = refl

less : (x y : ℕ) → is_lt (nat_cmp x y) ≡ nat_lt x y
less x y = told_less (nat_lt x y) (eqb x y)

below : (free bid : ℕ) → nat_lt free bid ≡ true → nat_le bid free ≡ false
below free bid e = grind (arith, nat_tests)

-- a bid that is more than what is left is not paid
pub short_of : (t : State) (r : BidRequest) (m n : ℕ) (c : Campaign) (left bid : ℕ) → left ≡ free t n c → bid ≡ c.facts.bid → is_lt (nat_cmp left bid) ≡ true → false ≡ pays_as t r m n c
unfolding may_pay
short_of t r m n c left bid e f lt =
    let rest = not (option_map_or (is_over (option_map (shown_to t m n c) (user_of r))) c.facts.cap false) in
    ap (λ (b : Bool). b && rest) (sym (below left bid (sym (less left bid) ∙ lt)) ∙ ap (λ (x : ℕ). nat_le x left) f ∙ ap (λ (x : ℕ). nat_le c.facts.bid x) e)
