-- What was found before, without the campaigns that were touched since, and the offers of those: together they are the
-- offers of all.
use Rattle.std.proofs.Common.{◌≡◌, ◌&&◌, ◌++◌, ◌⊎◌, suc, zero, inl, inr, List, [], ◌∷◌, Bool, true, false, not, cond, refl, sym, ◌∙◌, ap, subst, arith}
use Rattle.std.specs.Prelude.{◌↔◌, if◌then◌else◌}
use Rattle.std.specs.List.{Contains, filter, flat_map}
use Rattle.std.proofs.lemmas.Bool.{and_parts, cases_Bool, false≢true, not-true}
use Rattle.clearing.specs.declared.Offer.{Offer}
use Rattle.clearing.specs.declared.Terms.{Terms}
use Rattle.clearing.specs.Candidates.{offers_where}
use Rattle.clearing.specs.Clearing.{outcome}
use Rattle.clearing.proofs.Members.{outcome_same}

-- ---- what is among a list

pub among_next : {X : Type 0} (x y : X) (ys : List X) → Contains ys x → Contains (y ∷ ys) x
among_next x y ys (k, within, is) = (suc k, omega (arith, within), is)

pub among_first : {X : Type 0} (x y : X) (ys : List X) → y ≡ x → Contains (y ∷ ys) x
among_first x y ys e = (0, omega arith, e)

pub among_cases : {X : Type 0} (x y : X) (ys : List X) → Contains (y ∷ ys) x → (y ≡ x) ⊎ Contains ys x
among_cases x y ys (zero, within, is) = inl is
among_cases x y ys (suc k, within, is) = inr (k, omega (arith, within), is)

pub among_none : {X : Type 0} (x : X) (P : Type 0) → Contains [] x → P
among_none x P (k, within, is) = absurd (omega (arith, within))

pub among_left : {X : Type 0} (x : X) (xs ys : List X) → Contains xs x → Contains (xs ++ ys) x
among_left x [] ys c = among_none x (Contains ys x) c
among_left x (y ∷ xs) ys c =
    elim (among_cases x y xs c) [
      | inl e ↦ among_first x y (xs ++ ys) e
      | inr r ↦ among_next x y (xs ++ ys) (among_left x xs ys r)
    ]

pub among_right : {X : Type 0} (x : X) (xs ys : List X) → Contains ys x → Contains (xs ++ ys) x
among_right x [] ys c = c
among_right x (y ∷ xs) ys c = among_next x y (xs ++ ys) (among_right x xs ys c)

pub among_either : {X : Type 0} (x : X) (xs ys : List X) → Contains (xs ++ ys) x → Contains xs x ⊎ Contains ys x
among_either x [] ys c = inr c
among_either x (y ∷ xs) ys c =
    elim (among_cases x y (xs ++ ys) c) [
      | inl e ↦ inl (among_first x y xs e)
      | inr r ↦ elim (among_either x xs ys r) [
        | inl l ↦ inl (among_next x y xs l)
        | inr m ↦ inr m
      ]
    ]

-- filters
kept_first : {X : Type 0} (b : Bool) (x y : X) (ys : List X) → b ≡ true → y ≡ x → Contains (cond b (y ∷ ys) ys) x
kept_first true x y ys h e = among_first x y ys e
kept_first false x y ys h e = absurd (false≢true h)

kept_next : {X : Type 0} (b : Bool) (x y : X) (ys : List X) → Contains ys x → Contains (cond b (y ∷ ys) ys) x
kept_next true x y ys c = among_next x y ys c
kept_next false x y ys c = c

pub among_filter : {X : Type 0} (p : X → Bool) (x : X) (xs : List X) → p x ≡ true → Contains xs x → Contains (filter p xs) x
among_filter p x [] h c = among_none x (Contains [] x) c
among_filter p x (y ∷ xs) h c =
    elim (among_cases x y xs c) [
      | inl e ↦ kept_first (p y) x y (filter p xs) (ap p e ∙ h) e
      | inr r ↦ kept_next (p y) x y (filter p xs) (among_filter p x xs h r)
    ]

abbrev pub IsKept : {X : Type 0} → (X → Bool) → X → List X → Type 0
IsKept p x xs = (p x ≡ true) × Contains xs x

from_kept : {X : Type 0} (p : X → Bool) (b : Bool) (x y : X) (xs ys : List X) → p y ≡ b → (Contains ys x → IsKept p x xs) → Contains (cond b (y ∷ ys) ys) x → IsKept p x (y ∷ xs)
from_kept p true x y xs ys h rest c =
    elim (among_cases x y ys c) [
      | inl e ↦ (ap p (sym e) ∙ h, among_first x y xs e)
      | inr r ↦ ((rest r).0, among_next x y xs (rest r).1)
    ]
from_kept p false x y xs ys h rest c = ((rest c).0, among_next x y xs (rest c).1)

pub from_filter : {X : Type 0} (p : X → Bool) (x : X) (xs : List X) → Contains (filter p xs) x → IsKept p x xs
from_filter p x [] c = among_none x (IsKept p x []) c
from_filter p x (y ∷ xs) c = from_kept p (p y) x y xs (filter p xs) refl (from_filter p x xs) c

-- lists of each
pub among_flat : {P X : Type 0} (f : P → List X) (p : P) (x : X) (ps : List P) → Contains ps p → Contains (f p) x → Contains (flat_map f ps) x
among_flat f p x [] c d = among_none p (Contains (flat_map f []) x) c
among_flat f p x (q ∷ ps) c d =
    elim (among_cases p q ps c) [
      | inl e ↦ among_left x (f q) (flat_map f ps) (subst (λ r. Contains (f r) x) (sym e) d)
      | inr r ↦ among_right x (f q) (flat_map f ps) (among_flat f p x ps r d)
    ]

pub from_flat : {P X : Type 0} (f : P → List X) (x : X) (ps : List P) → Contains (flat_map f ps) x → (p : P) × Contains ps p × Contains (f p) x
from_flat {P} f x [] c = among_none x ((p : P) × Contains [] p × Contains (f p) x) c
from_flat f x (q ∷ ps) c =
    elim (among_either x (f q) (flat_map f ps) c) [
      | inl l ↦ (q, among_first q q ps refl, l)
      | inr r ↦ let (p, among, has) = from_flat f x ps r in (p, among_next p q ps among, has)
    ]

-- ---- the offers

paid_part : {X : Type 0} (b : Bool) (x : X) (xs : List X) → Contains (if b then xs else []) x → (b ≡ true) × Contains xs x
paid_part true x xs c = (refl, c)
paid_part false x xs c = among_none x ((false ≡ true) × Contains xs x) c

part_paid : {X : Type 0} (b : Bool) (x : X) (xs : List X) → b ≡ true → Contains xs x → Contains (if b then xs else []) x
part_paid true x xs h c = c
part_paid false x xs h c = absurd (false≢true h)

here : {P : Type 0} (touched pay : P → Bool) (cands : P → List Offer) (may : Offer → Bool) (now before : List P) (cs : List Offer)
    → ((p : P) → touched p ≡ false → Contains now p → Contains before p)
    → ((o : Offer) → Contains (flat_map cands before) o → Contains cs o)
    → ((p : P) (o : Offer) → Contains before p → Contains (cands p) o → may o ≡ (not (touched p) && pay p))
    → (o : Offer) → Contains (flat_map (offers_where pay cands) now) o → Contains (filter may cs ++ flat_map (offers_where pay cands) (filter touched now)) o
here touched pay cands may now before cs same listed asks o c =
    let (p, among, has) = from_flat (offers_where pay cands) o now c in
    let (paid, cand) = paid_part (pay p) o (cands p) has in
    let front = filter may cs in
    let back = flat_map (offers_where pay cands) (filter touched now) in
    elim (cases_Bool (touched p)) [
      | inl t ↦ among_right o front back (among_flat (offers_where pay cands) p o (filter touched now) (among_filter touched p now t among) has)
      | inr f ↦
          let there = same p f among in
          let may_is = asks p o there cand ∙ ap (λ b. not b && pay p) f ∙ paid in
          among_left o front back (among_filter may o cs may_is (listed o (among_flat cands p o before there cand)))
    ]

back_again : {P : Type 0} (touched pay : P → Bool) (cands : P → List Offer) (may : Offer → Bool) (now before : List P) (cs : List Offer)
    → ((p : P) → touched p ≡ false → Contains before p → Contains now p)
    → ((o : Offer) → Contains cs o → Contains (flat_map cands before) o)
    → ((p : P) (o : Offer) → Contains before p → Contains (cands p) o → may o ≡ (not (touched p) && pay p))
    → (o : Offer) → Contains (filter may cs ++ flat_map (offers_where pay cands) (filter touched now)) o → Contains (flat_map (offers_where pay cands) now) o
back_again touched pay cands may now before cs same listed asks o c =
    elim (among_either o (filter may cs) (flat_map (offers_where pay cands) (filter touched now)) c) [
      | inl l ↦
          let (pays, among) = from_filter may o cs l in
          let (p, there, cand) = from_flat cands o before (listed o among) in
          let (fresh, paid) = and_parts (not (touched p)) (pay p) (sym (asks p o there cand) ∙ pays) in
          among_flat (offers_where pay cands) p o now (same p (not-true (touched p) fresh) there) (part_paid (pay p) o (cands p) paid cand)
      | inr r ↦
          let (p, kept, has) = from_flat (offers_where pay cands) o (filter touched now) r in
          let (is_touched, among) = from_filter touched p now kept in
          among_flat (offers_where pay cands) p o now among has
    ]

pub merged : {P : Type 0} (terms : List Terms) (touched pay : P → Bool) (cands : P → List Offer) (may : Offer → Bool) (now before : List P) (cs : List Offer)
    → ((p : P) → touched p ≡ false → Contains now p ↔ Contains before p)
    → ((o : Offer) → Contains cs o ↔ Contains (flat_map cands before) o)
    → ((p : P) (o : Offer) → Contains before p → Contains (cands p) o → may o ≡ (not (touched p) && pay p))
    → outcome (flat_map (offers_where pay cands) now) terms ≡ outcome (filter may cs ++ flat_map (offers_where pay cands) (filter touched now)) terms
merged terms touched pay cands may now before cs same listed asks =
    outcome_same terms (flat_map (offers_where pay cands) now) (filter may cs ++ flat_map (offers_where pay cands) (filter touched now))
    (back_again touched pay cands may now before cs (λ p f. (same p f).1) (λ o. (listed o).0) asks)
    (here touched pay cands may now before cs (λ p f. (same p f).0) (λ o. (listed o).1) asks)
