-- Candidates at the front that may not pay play no part.
use Rattle.std.proofs.Common.{◌≡◌, ◌≤◌, ◌+◌, ◌&&◌, ℕ, zero, suc, List, [], ◌∷◌, Bool, true, false, not, cond, Option, None, Some, take, drop, refl, ◌∙◌, ap, subst, arith}
use Rattle.std.specs.Prelude.{filter}
use Rattle.std.specs.List.{list_all}
use Rattle.std.specs.Option.{option_map_or}
use Rattle.std.proofs.lemmas.Bool.{and_parts}
use Rattle.clearing.specs.declared.Offer.{Offer}
use Rattle.clearing.specs.Candidates.{IsRefused, asked, asked_for_first, asked_for_next, first_that_pays, is_beaten_by, is_in_order, refused_first, stands_before}
use Rattle.clearing.specs.Clearing.{greatest_bid, rivals}

-- ---- what the walk refuses

refused_more : (may : Offer → Bool) (best : Option Offer) (o : Offer) (os : List Offer) (t m : Bool) → is_beaten_by best o ≡ t → may o ≡ m → IsRefused may os (refused_first may best os)
    → IsRefused may (o ∷ os) (cond t 0 (cond m 0 (suc (refused_first may best os))))
refused_more may best o os true m e h rest = (omega arith, refl)
refused_more may best o os false true e h rest = (omega arith, refl)
refused_more may best o os false false e h rest =
    (omega (arith, rest.0), ap (λ (b : Bool). not b && list_all (λ o. not (may o)) (take (refused_first may best os) os)) h ∙ rest.1)

pub first_refused : (may : Offer → Bool) (best : Option Offer) (os : List Offer) → IsRefused may os (refused_first may best os)
first_refused may best [] = (omega arith, refl)
first_refused may best (o ∷ os) = refused_more may best o os (is_beaten_by best o) (may o) refl refl (first_refused may best os)

-- ---- a front that is refused

not_true : (b : Bool) → not b ≡ true → b ≡ false
not_true true e = cc
not_true false e = refl

split : (may : Offer → Bool) (o : Offer) (os : List Offer) (k : ℕ) → IsRefused may (o ∷ os) (suc k) → (may o ≡ false) × IsRefused may os k
split may o os k h =
    let parts = and_parts (not (may o)) (list_all (λ o. not (may o)) (take k os)) h.1 in
    (not_true (may o) parts.0, (omega (arith, h.0), parts.1))

pub front_filtered : (may : Offer → Bool) (os : List Offer) (k : ℕ) → IsRefused may os k → filter may os ≡ filter may (drop k os)
front_filtered may os zero h = refl
front_filtered may [] (suc k) h = refl
front_filtered may (o ∷ os) (suc k) h =
    let (no_pay, rest) = split may o os k h in
    ap (λ (b : Bool). cond b (o ∷ filter may os) (filter may os)) no_pay ∙ front_filtered may os k rest

-- what is asked of a list without others, by its first
asked_one_more : (may : Offer → Bool) (o : Offer) (os : List Offer) → may o ≡ false → asked may [] (o ∷ os) ≡ suc (asked may [] os)
asked_one_more may o os e =
    let next : Offer × List Offer → ℕ = λ (p : Offer × List Offer). asked_for_next may p.0 (greatest_bid (rivals p.0 [])) p.1 in
    let first = asked_for_first may None os in
    let behind = option_map_or next (first_that_pays may None os) 0 in
    let last : suc first + behind ≡ suc (first + behind) = omega arith in
    ap (λ (b : Bool). cond b 1 (suc (asked_for_first may None os)) + option_map_or next (cond b (Some (o, os)) (first_that_pays may None os)) 0) e ∙ last

pub front_asked : (may : Offer → Bool) (os : List Offer) (k : ℕ) → IsRefused may os k → asked may [] (drop k os) ≤ asked may [] os
front_asked may os zero h = omega arith
front_asked may [] (suc k) h = omega arith
front_asked may (o ∷ os) (suc k) h =
    let (no_pay, rest) = split may o os k h in
    omega (arith, asked_one_more may o os no_pay, front_asked may os k rest)

-- ---- what holds of a list holds behind a front

pub order_behind : (os : List Offer) (k : ℕ) → is_in_order os ≡ true → is_in_order (drop k os) ≡ true
order_behind os zero h = h
order_behind [] (suc k) h = refl
order_behind (o ∷ os) (suc k) h = order_behind os k (and_parts (list_all (stands_before o) os) (is_in_order os) h).1

pub all_behind : {A : Type 0} (p : A → Bool) (xs : List A) (k : ℕ) → list_all p xs ≡ true → list_all p (drop k xs) ≡ true
all_behind p xs zero h = h
all_behind p [] (suc k) h = refl
all_behind p (x ∷ xs) (suc k) h = all_behind p xs k (and_parts (p x) (list_all p xs) h).1

-- two fronts, one behind the other
pub fronts_joined : (may : Offer → Bool) (os : List Offer) (k n : ℕ) → IsRefused may os k → IsRefused may (drop k os) n → IsRefused may os (k + n)
fronts_joined may os zero n h g = let same : n ≡ 0 + n = omega arith in subst (IsRefused may os) same g
fronts_joined may [] (suc k) n h g = absurd (omega (arith, h.0))
fronts_joined may (o ∷ os) (suc k) n h g =
    let (no_pay, rest) = split may o os k h in
    let joined = fronts_joined may os k n rest g in
    let same : suc (k + n) ≡ suc k + n = omega arith in
    let one_more : IsRefused may (o ∷ os) (suc (k + n)) = (omega (arith, joined.0), ap (λ (b : Bool). not b && list_all (λ o. not (may o)) (take (k + n) os)) no_pay ∙ joined.1) in
    subst (IsRefused may (o ∷ os)) same one_more
