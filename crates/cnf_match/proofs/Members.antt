-- Members of lists, and numbers in strict order: there is one such list of the same numbers.
use Rattle.std.proofs.Common.{◌≡◌, ℕ, zero, suc, ◌<◌, ◌⊎◌, inl, inr, List, [], ◌∷◌, ◌++◌, length, get_or, Bool, true, false, ◌||◌, map, Option, Some, None, refl, sym, ◌∙◌, ap, subst, arith}
use Rattle.std.specs.List.{AllPairs, Contains, cons_option, filter_map, flat_map, list_any}
use Rattle.std.specs.List.Sorted.{IsStrictlyIncreasing}
use Rattle.std.proofs.lemmas.Bool.{cases_Bool, false≢true}
use Rattle.std.proofs.lemmas.List.Kept.{AllPairs-from_increasing}

-- ---- what stands in a list

abbrev pub Has : {X : Type 0} → X → List X → Type 0
Has z [] = ⊥
Has z (x ∷ xs) = (z ≡ x) ⊎ Has z xs

has_place : {X : Type 0} (xs : List X) (z : X) (k : ℕ) → k < length xs → get_or xs k z ≡ z → Has z xs
has_place [] z k within is = absurd (omega arith)
has_place (x ∷ xs) z zero within is = inl (sym is)
has_place (x ∷ xs) z (suc k) within is = inr (has_place xs z k (omega arith) is)

pub has_from_contains : {X : Type 0} (xs : List X) (z : X) → Contains xs z → Has z xs
has_from_contains xs z (k, within, is) = has_place xs z k within is

pub contains_from_has : {X : Type 0} (xs : List X) (z : X) → Has z xs → Contains xs z
contains_from_has [] z h = absurd h
contains_from_has (x ∷ xs) z (inl e) = (zero, omega arith, sym e)
contains_from_has (x ∷ xs) z (inr h) =
    let (k, within, is) = contains_from_has xs z h in
    (suc k, omega arith, is)

pub has_left : {X : Type 0} (xs ys : List X) (z : X) → Has z xs → Has z (xs ++ ys)
has_left [] ys z h = absurd h
has_left (x ∷ xs) ys z (inl e) = inl e
has_left (x ∷ xs) ys z (inr h) = inr (has_left xs ys z h)

pub has_right : {X : Type 0} (xs ys : List X) (z : X) → Has z ys → Has z (xs ++ ys)
has_right [] ys z h = h
has_right (x ∷ xs) ys z h = inr (has_right xs ys z h)

pub has_either : {X : Type 0} (xs ys : List X) (z : X) → Has z (xs ++ ys) → Has z xs ⊎ Has z ys
has_either [] ys z h = inr h
has_either (x ∷ xs) ys z (inl e) = inl (inl e)
has_either (x ∷ xs) ys z (inr h) = elim (has_either xs ys z h) [ inl l ↦ inl (inr l) | inr r ↦ inr r ]

pub has_mapped : {X Y : Type 0} (f : X → Y) (xs : List X) (x : X) → Has x xs → Has (f x) (map f xs)
has_mapped f [] x h = absurd h
has_mapped f (y ∷ xs) x (inl e) = inl (ap f e)
has_mapped f (y ∷ xs) x (inr h) = inr (has_mapped f xs x h)

pub mapped_has : {X Y : Type 0} (f : X → Y) (xs : List X) (z : Y) → Has z (map f xs) → (x : X) × Has x xs × (f x ≡ z)
mapped_has f [] z h = absurd h
mapped_has f (y ∷ xs) z (inl e) = (y, inl refl, sym e)
mapped_has f (y ∷ xs) z (inr h) = let (x, has, is) = mapped_has f xs z h in (x, inr has, is)

pub has_spread : {X Y : Type 0} (f : X → List Y) (xs : List X) (x : X) (y : Y) → Has x xs → Has y (f x) → Has y (flat_map f xs)
has_spread f [] x y h k = absurd h
has_spread {X} {Y} f (w ∷ xs) x y (inl e) k = has_left (f w) (flat_map f xs) y (subst (λ (v : X). Has y (f v)) e k)
has_spread f (w ∷ xs) x y (inr h) k = has_right (f w) (flat_map f xs) y (has_spread f xs x y h k)

pub any_has : {X : Type 0} (p : X → Bool) (xs : List X) → list_any p xs ≡ true → (x : X) × Has x xs × (p x ≡ true)
any_has p [] h = absurd (false≢true h)
any_has p (x ∷ xs) h =
    elim (cases_Bool (p x)) [
      | inl e ↦ (x, inl refl, e)
      | inr e ↦ let (y, has, is) = any_has p xs (sym (ap (λ b. b || list_any p xs) e) ∙ h) in (y, inr has, is)
    ]

pub has_any : {X : Type 0} (p : X → Bool) (xs : List X) (x : X) → Has x xs → p x ≡ true → list_any p xs ≡ true
has_any p [] x h e = absurd h
has_any p (y ∷ xs) x (inl f) e = ap (λ b. b || list_any p xs) (ap p (sym f) ∙ e)
has_any p (y ∷ xs) x (inr h) e = either (p y) (list_any p xs) (has_any p xs x h e)
  where
    either : (b c : Bool) → c ≡ true → (b || c) ≡ true
    either true c e = refl
    either false c e = e

pub has_found : {X Y : Type 0} (f : X → Option Y) (xs : List X) (x : X) (y : Y) → Has x xs → f x ≡ Some y → Has y (filter_map f xs)
has_found f [] x y h e = absurd h
has_found {X} {Y} f (w ∷ xs) x y (inl g) e = subst (λ (o : Option Y). Has y (cons_option o (filter_map f xs))) (sym (ap f (sym g) ∙ e)) (inl refl)
has_found {X} {Y} f (w ∷ xs) x y (inr h) e = by (f w) (has_found f xs x y h e)
  where
    by : (o : Option Y) → Has y (filter_map f xs) → Has y (cons_option o (filter_map f xs))
    by None k = k
    by (Some v) k = inr k

pub found_has : {X Y : Type 0} (f : X → Option Y) (xs : List X) (y : Y) → Has y (filter_map f xs) → (x : X) × Has x xs × (f x ≡ Some y)
found_has f [] y h = absurd h
found_has {X} {Y} f (w ∷ xs) y h = by (f w) refl h (found_has f xs y)
  where
    by : (o : Option Y) → f w ≡ o → Has y (cons_option o (filter_map f xs)) → (Has y (filter_map f xs) → (x : X) × Has x xs × (f x ≡ Some y)) → (x : X) × Has x (w ∷ xs) × (f x ≡ Some y)
    by None e k later = let (x, has, is) = later k in (x, inr has, is)
    by (Some v) e (inl g) later = (w, inl refl, e ∙ ap Some (sym g))
    by (Some v) e (inr k) later = let (x, has, is) = later k in (x, inr has, is)

-- ---- numbers in strict order

abbrev pub Up : List ℕ → Type 0
Up [] = Unit {0}
Up (x ∷ xs) = ((z : ℕ) → Has z xs → x < z) × Up xs

same_heads : (x y : ℕ) (xs ys : List ℕ) → Up (x ∷ xs) → Up (y ∷ ys) → Has x (y ∷ ys) → Has y (x ∷ xs) → x ≡ y
same_heads x y xs ys up upper (inl e) k = e
same_heads x y xs ys up upper (inr h) (inl f) = sym f
same_heads x y xs ys up upper (inr h) (inr k) = absurd (omega (arith, up.0 y k, upper.0 x h))

in_rest : (x y z : ℕ) (xs ys : List ℕ) → x ≡ y → Up (x ∷ xs) → Has z xs → Has z (y ∷ ys) → Has z ys
in_rest x y z xs ys e up h (inr k) = k
in_rest x y z xs ys e up h (inl f) = absurd (omega (arith, up.0 z h, e, f))

pub one_order : (xs ys : List ℕ) → Up xs → Up ys → ((z : ℕ) → Has z xs → Has z ys) → ((z : ℕ) → Has z ys → Has z xs) → xs ≡ ys
one_order [] [] up upper to back = refl
one_order [] (y ∷ ys) up upper to back = absurd (back y (inl refl))
one_order (x ∷ xs) [] up upper to back = absurd (to x (inl refl))
one_order (x ∷ xs) (y ∷ ys) up upper to back =
    let e : x ≡ y = same_heads x y xs ys up upper (to x (inl refl)) (back y (inl refl)) in
    let rest : xs ≡ ys = one_order xs ys up.1 upper.1
    (λ z h. in_rest x y z xs ys e up h (to z (inr h)))
    (λ z h. in_rest y x z ys xs (sym e) upper h (back z (inr h))) in
    cc

first_below : (x : ℕ) (xs : List ℕ) → AllPairs (λ (m n : ℕ). m < n) (x ∷ xs) → (z : ℕ) → Has z xs → x < z
first_below x xs pairs z h =
    let (k, within, is) = contains_from_has xs z h in
    let below : x < get_or xs k z = pairs 0 (suc k) z (omega arith) (omega arith) in
    omega (arith, below, is)

rest_pairs : (x : ℕ) (xs : List ℕ) → AllPairs (λ (m n : ℕ). m < n) (x ∷ xs) → AllPairs (λ (m n : ℕ). m < n) xs
rest_pairs x xs pairs = λ i j d lt within. pairs (suc i) (suc j) d (omega arith) (omega arith)

up_from_pairs : (xs : List ℕ) → AllPairs (λ (m n : ℕ). m < n) xs → Up xs
up_from_pairs [] pairs = tt
up_from_pairs (x ∷ xs) pairs = (first_below x xs pairs, up_from_pairs xs (rest_pairs x xs pairs))

pub up_from_increasing : (xs : List ℕ) → IsStrictlyIncreasing xs → Up xs
up_from_increasing xs h = up_from_pairs xs (AllPairs-from_increasing xs h)
