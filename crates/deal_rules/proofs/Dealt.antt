-- What one more deal adds to the offers.
use Rattle.std.proofs.Common.{◌≡◌, ℕ, ◌+◌, ◌<◌, List, [], ◌∷◌, ◌++◌, length, take, get_or, Option, None, Some, option_to_list, refl, sym, ap, ◌∙◌, arith}
use Rattle.std.specs.List.{enumerate_from, filter_map}
use Rattle.std.proofs.lemmas.List.{append_assoc, length-take, take_more}
use Rattle.std.proofs.lemmas.List.Elements.{filter_map-append}
use Rattle.campaign.specs.declared.parts.FactParts.{FactParts}
use Rattle.clearing.specs.declared.Offer.{Offer}
use Rattle.deal_rules.specs.Offers.{deal_offer, deal_offers}
use Rattle.rtb_types.specs.declared.request.Deal.{Deal}

alone : {A B : Type 0} (h : A → Option B) (x : A) → filter_map h (x ∷ []) ≡ option_to_list (h x)
alone {A} {B} h x = one (h x)
  where
    one : (o : Option B) → filter_map (λ (u : Option B). u) (o ∷ []) ≡ option_to_list o
    one None = refl
    one (Some y) = refl

numbered_push : {A : Type 0} (n : ℕ) (xs : List A) (x : A) → enumerate_from n (xs ++ x ∷ []) ≡ enumerate_from n xs ++ (n + length xs, x) ∷ []
numbered_push n [] x = ap (λ (k : ℕ). (k, x) ∷ []) (omega arith)
numbered_push n (y ∷ xs) x = ap (λ l. (n, y) ∷ l) (numbered_push (n + 1) xs x ∙ ap (λ (k : ℕ). enumerate_from (n + 1) xs ++ (k, x) ∷ []) (omega arith))

-- one deal more
pub more_offers : (number : ℕ) (f : FactParts) (before : List Offer) (deals : List Deal) (k : ℕ) (d : Deal) → k < length deals → d ≡ get_or deals k d
    → (before ++ deal_offers number f (take k deals)) ++ option_to_list (deal_offer number f (k + 1, d)) ≡ before ++ deal_offers number f (take (k + 1) deals)
more_offers number f before deals k d lt e =
    let h = deal_offer number f in
    let front = take k deals in
    let pool : 1 + length front ≡ k + 1 = omega (arith, length-take k deals) in
    append_assoc before (deal_offers number f front) (option_to_list (h (k + 1, d)))
    ∙ ap (λ l. before ++ l) (sym (
    ap (λ l. filter_map h (enumerate_from 1 l)) (take_more deals k d lt ∙ ap (λ i. front ++ i ∷ []) (sym e))
    ∙ ap (filter_map h) (numbered_push 1 front d)
    ∙ filter_map-append h (enumerate_from 1 front) ((1 + length front, d) ∷ [])
    ∙ ap (λ l. filter_map h (enumerate_from 1 front) ++ l) (alone h (1 + length front, d) ∙ ap (λ (p : ℕ). option_to_list (h (p, d))) pool)))
