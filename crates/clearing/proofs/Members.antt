-- What clearing gives depends on which offers there are, and not on their order.
use Rattle.std.proofs.Common.{◌≡◌, ◌≤◌, ℕ, List, [], ◌∷◌, Bool, true, false, not, cond, Option, Some, None, length, refl, sym, ◌∙◌, ap, arith, IsTrue}
use Rattle.std.specs.List.{All, Contains, filter}
use Rattle.std.proofs.lemmas.List.Elements.{All-cons, All-contains, All-contains_itself, All-head, All-tail, All-weaker}
use Rattle.clearing.specs.declared.Offer.{Offer}
use Rattle.clearing.specs.declared.Terms.{Terms}
use Rattle.clearing.specs.Candidates.{is_rival}
use Rattle.clearing.specs.Clearing.{beats, greatest_bid, outcome, rivals, winner}
use Rattle.clearing.proofs.Walking.{greatest_cons, none_unbeaten, outcome_as}
use Rattle.clearing.proofs.Winner.{unbeaten_from_winner, winner_from_unbeaten}

abbrev pub Has : List Offer → List Offer → Type 0
Has xs ys = (o : Offer) → Contains ys o → Contains xs o

-- what holds of each of those holds of each of these
all_there : (P : Offer → Type 0) (xs ys : List Offer) → Has xs ys → All P xs → All P ys
all_there P xs ys has h = All-weaker (Contains ys) P (λ y c. All-contains P xs y h (has y c)) ys (All-contains_itself ys)

-- ---- the next bid

abbrev IsBelow : (Offer → Bool) → ℕ → Offer → Type 0
IsBelow p g o = p o ≡ true → o.bid ≤ g

one_below : (b : Bool) (o : Offer) (os : List Offer) (g : ℕ) → (b ≡ true → o.bid ≤ g) → greatest_bid os ≤ g → greatest_bid (cond b (o ∷ os) os) ≤ g
one_below true o os g h k = omega (arith, greatest_cons o os, h refl, k)
one_below false o os g h k = k

most_of_all : (p : Offer → Bool) (g : ℕ) (os : List Offer) → All (IsBelow p g) os → greatest_bid (filter p os) ≤ g
most_of_all p g [] h = omega arith
most_of_all p g (o ∷ os) h = one_below (p o) o (filter p os) g (All-head (IsBelow p g) o os h) (most_of_all p g os (All-tail (IsBelow p g) o os h))

below_one : (b : Bool) (o : Offer) (os : List Offer) (g : ℕ) → greatest_bid (cond b (o ∷ os) os) ≤ g → (b ≡ true → o.bid ≤ g) × (greatest_bid os ≤ g)
below_one true o os g h = (λ e. omega (arith, greatest_cons o os, h), omega (arith, greatest_cons o os, h))
below_one false o os g h = (λ e. cc, h)

all_of_most : (p : Offer → Bool) (g : ℕ) (os : List Offer) → greatest_bid (filter p os) ≤ g → All (IsBelow p g) os
all_of_most p g [] h = λ k d lt. absurd (omega arith)
all_of_most p g (o ∷ os) h =
    let (first, rest) = below_one (p o) o (filter p os) g h in
    All-cons (IsBelow p g) o os first (all_of_most p g os rest)

no_more : (p : Offer → Bool) (xs ys : List Offer) → Has xs ys → greatest_bid (filter p ys) ≤ greatest_bid (filter p xs)
no_more p xs ys has = let g = greatest_bid (filter p xs) in most_of_all p g ys (all_there (IsBelow p g) xs ys has (all_of_most p g xs (omega arith)))

greatest_same : (p : Offer → Bool) (xs ys : List Offer) → Has xs ys → Has ys xs → greatest_bid (filter p xs) ≡ greatest_bid (filter p ys)
greatest_same p xs ys there back = omega (arith, no_more p xs ys there, no_more p ys xs back)

-- ---- the sale

empty_too : (xs ys : List Offer) → xs ≡ [] → Has xs ys → ys ≡ []
empty_too xs [] e has = refl
empty_too xs (y ∷ ys) e has = let (k, within, is) = has y (0, omega arith, refl) in absurd (omega (arith, within, ap length e))

pub outcome_same : (terms : List Terms) (xs ys : List Offer) → Has xs ys → Has ys xs → outcome xs terms ≡ outcome ys terms
outcome_same terms xs ys there back = by_winner (winner xs) refl
  where
    by_winner : (w : Option Offer) → winner xs ≡ w → outcome xs terms ≡ outcome ys terms
    by_winner None won = let none = none_unbeaten xs won in ap (λ l. outcome l terms) (none ∙ sym (empty_too xs ys none there))
    by_winner (Some o) won =
        let (among, unbeaten) = unbeaten_from_winner xs o won in
        let won_too = winner_from_unbeaten ys o (back o among, all_there (λ other. IsTrue (not (beats other o))) xs ys there unbeaten) in
        outcome_as xs terms o (greatest_bid (rivals o xs)) won refl
        ∙ sym (outcome_as ys terms o (greatest_bid (rivals o xs)) won_too (greatest_same (is_rival o) xs ys there back))
