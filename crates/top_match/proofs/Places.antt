-- Lists with the places of their items, and tests of all items.
use Rattle.std.proofs.Common.{◌≡◌, ℕ, zero, suc, ◌+◌, ◌-◌, ◌<◌, ◌==◌, ◌⊎◌, inl, inr, List, [], ◌∷◌, Bool, true, false, cond, Option, Some, None, is_none, length, map, slice_get, refl, sym, ◌∙◌, ap, subst, arith}
use Rattle.std.specs.List.{enumerate_from, list_all}
use Rattle.std.specs.Option.{option_map_or}
use Rattle.std.proofs.lemmas.Bool.{and_from, and_parts, eqb-false, false≢true, ne_eqb}
use Rattle.std.proofs.lemmas.Option.{same_Some}
use Rattle.cnf_match.proofs.Members.{Has}
use Rattle.top_match.specs.Choosing.{item_at}

none_some : {X : Type 0} (x : X) → None ≡ Some x → ⊥
none_some x e = cc

-- ---- places and numbers

from_one : (n : ℕ) → (n ≡ 0 → ⊥) → n ≡ 1 + (n - 1)
from_one zero some = absurd (some refl)
from_one (suc n) some = omega arith

pub item_there : {X : Type 0} (xs : List X) (n k : ℕ) → n ≡ 1 + k → item_at xs n ≡ slice_get xs k
item_there xs n k is =
    let place : n - 1 ≡ k = omega (arith, is) in
    ap (λ b. cond b None (slice_get xs (n - 1))) (ne_eqb n 0 (λ e. omega (arith, is, e))) ∙ ap (slice_get xs) place

pub item_placed : {X : Type 0} (xs : List X) (n : ℕ) (x : X) → item_at xs n ≡ Some x → (k : ℕ) × (n ≡ 1 + k) × (slice_get xs k ≡ Some x)
item_placed {X} xs n x is = by (n == 0) refl is
  where
    by : (b : Bool) → (n == 0) ≡ b → cond b None (slice_get xs (n - 1)) ≡ Some x → (k : ℕ) × (n ≡ 1 + k) × (slice_get xs k ≡ Some x)
    by true e h = absurd (none_some x h)
    by false e h = (n - 1, from_one n (eqb-false n 0 e), h)

pub within_at : {X : Type 0} (xs : List X) (k : ℕ) → k < length xs → (x : X) × (slice_get xs k ≡ Some x)
within_at [] k h = absurd (omega (arith, h))
within_at (x ∷ xs) zero h = (x, refl)
within_at (x ∷ xs) (suc k) h = within_at xs k (omega (arith, h))

pub got_has : {X : Type 0} (xs : List X) (k : ℕ) (x : X) → slice_get xs k ≡ Some x → Has x xs
got_has [] k x there = absurd (none_some x there)
got_has (y ∷ xs) zero x there = inl (sym (same_Some y x there))
got_has (y ∷ xs) (suc k) x there = inr (got_has xs k x there)

pub enumerated_has : {X : Type 0} (s : ℕ) (xs : List X) (k : ℕ) (x : X) → slice_get xs k ≡ Some x → Has (s + k, x) (enumerate_from s xs)
enumerated_has s [] k x there = absurd (none_some x there)
enumerated_has {X} s (y ∷ xs) zero x there =
    let start : s + 0 ≡ s = omega arith in
    inl (ap (λ (m : ℕ). (m, x)) start ∙ ap (λ (v : X). (s, v)) (sym (same_Some y x there)))
enumerated_has {X} s (y ∷ xs) (suc k) x there =
    let next : s + 1 + k ≡ s + suc k = omega arith in
    inr (subst (λ (m : ℕ). Has {X = ℕ × X} (m, x) (enumerate_from (s + 1) xs)) next (enumerated_has (s + 1) xs k x there))

pub placed : {X : Type 0} (s : ℕ) (xs : List X) (q : ℕ × X) → Has q (enumerate_from s xs) → (k : ℕ) × (x : X) × (slice_get xs k ≡ Some x) × (q ≡ (s + k, x))
placed s [] q h = absurd h
placed s (x ∷ xs) q (inl e) =
    let start : s ≡ s + 0 = omega arith in
    (zero, x, refl, e ∙ ap (λ (m : ℕ). (m, x)) start)
placed s (x ∷ xs) q (inr h) =
    let (k, y, there, is) = placed (s + 1) xs q h in
    let next : s + 1 + k ≡ s + suc k = omega arith in
    (suc k, y, there, is ∙ ap (λ (m : ℕ). (m, y)) next)

pub mapped_at : {X Y : Type 0} (f : ℕ × X → Y) (s : ℕ) (xs : List X) (k : ℕ) (x : X) → slice_get xs k ≡ Some x → slice_get (map f (enumerate_from s xs)) k ≡ Some (f (s + k, x))
mapped_at f s [] k x there = absurd (none_some x there)
mapped_at {X} {Y} f s (y ∷ xs) zero x there =
    let start : s ≡ s + 0 = omega arith in
    ap (λ (v : X). Some (f (s, v))) (same_Some y x there) ∙ ap (λ (m : ℕ). Some (f (m, x))) start
mapped_at {X} {Y} f s (y ∷ xs) (suc k) x there =
    let next : s + 1 + k ≡ s + suc k = omega arith in
    mapped_at f (s + 1) xs k x there ∙ ap (λ (m : ℕ). Some (f (m, x))) next

pub mapped_same : {X Y : Type 0} (f : ℕ × X → Y) (s : ℕ) (ys : List Y) (xs : List X) → length ys ≡ length xs
    → ((k : ℕ) (y : Y) (x : X) → slice_get ys k ≡ Some y → slice_get xs k ≡ Some x → y ≡ f (s + k, x)) → ys ≡ map f (enumerate_from s xs)
mapped_same f s [] [] long each = refl
mapped_same f s [] (x ∷ xs) long each = absurd (omega (arith, long))
mapped_same f s (y ∷ ys) [] long each = absurd (omega (arith, long))
mapped_same {X} {Y} f s (y ∷ ys) (x ∷ xs) long each =
    let start : s + 0 ≡ s = omega arith in
    let head : y ≡ f (s, x) = each 0 y x refl refl ∙ ap (λ (m : ℕ). f (m, x)) start in
    let rest = mapped_same f (s + 1) ys xs (omega (arith, long)) (λ k w z at there. each (suc k) w z at there ∙ further k z) in
    ap (λ (w : Y). w ∷ ys) head ∙ ap (λ l. f (s, x) ∷ l) rest
  where
    further : (k : ℕ) (z : X) → f (s + suc k, z) ≡ f (s + 1 + k, z)
    further k z = let next : s + suc k ≡ s + 1 + k = omega arith in ap (λ (m : ℕ). f (m, z)) next

pub all_enumerated : {X : Type 0} (p : ℕ × X → Bool) (s : ℕ) (xs : List X) (k : ℕ) (x : X) → list_all p (enumerate_from s xs) ≡ true → slice_get xs k ≡ Some x → p (s + k, x) ≡ true
all_enumerated p s [] k x h there = absurd (none_some x there)
all_enumerated {X} p s (y ∷ xs) zero x h there =
    let start : s + 0 ≡ s = omega arith in
    ap (λ (m : ℕ). p (m, x)) start ∙ ap (λ (v : X). p (s, v)) (sym (same_Some y x there)) ∙ (and_parts (p (s, y)) (list_all p (enumerate_from (s + 1) xs)) h).0
all_enumerated {X} p s (y ∷ xs) (suc k) x h there =
    let next : s + suc k ≡ s + 1 + k = omega arith in
    ap (λ (m : ℕ). p (m, x)) next ∙ all_enumerated p (s + 1) xs k x (and_parts (p (s, y)) (list_all p (enumerate_from (s + 1) xs)) h).1 there

pub all_from_places : {X : Type 0} (p : ℕ × X → Bool) (s : ℕ) (xs : List X) → ((k : ℕ) (x : X) → slice_get xs k ≡ Some x → p (s + k, x) ≡ true) → list_all p (enumerate_from s xs) ≡ true
all_from_places p s [] each = refl
all_from_places {X} p s (y ∷ xs) each =
    let start : s ≡ s + 0 = omega arith in
    and_from (p (s, y)) (list_all p (enumerate_from (s + 1) xs)) (ap (λ (m : ℕ). p (m, y)) start ∙ each 0 y refl) (all_from_places p (s + 1) xs (λ k x there. further k x ∙ each (suc k) x there))
  where
    further : (k : ℕ) (x : X) → p (s + 1 + k, x) ≡ p (s + suc k, x)
    further k x = let next : s + 1 + k ≡ s + suc k = omega arith in ap (λ (m : ℕ). p (m, x)) next

pub all_has : {X : Type 0} (p : X → Bool) (xs : List X) → list_all p xs ≡ true → (x : X) → Has x xs → p x ≡ true
all_has p [] h x k = absurd k
all_has p (y ∷ xs) h x (inl e) = ap p e ∙ (and_parts (p y) (list_all p xs) h).0
all_has p (y ∷ xs) h x (inr k) = all_has p xs (and_parts (p y) (list_all p xs) h).1 x k

pub all_from_has : {X : Type 0} (p : X → Bool) (xs : List X) → ((x : X) → Has x xs → p x ≡ true) → list_all p xs ≡ true
all_from_has p [] each = refl
all_from_has p (y ∷ xs) each = and_from (p y) (list_all p xs) (each y (inl refl)) (all_from_has p xs (λ x k. each x (inr k)))

pub opened : {X : Type 0} (p : X → Bool) (o : Option X) → option_map_or p o false ≡ true → (x : X) × (o ≡ Some x) × (p x ≡ true)
opened p None h = absurd (false≢true h)
opened p (Some x) h = (x, refl, h)

pub none_is : (o : Option ℕ) → is_none o ≡ true → o ≡ None
none_is None h = refl
none_is (Some n) h = absurd (false≢true h)
