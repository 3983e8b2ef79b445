-- Texts in byte order, each once: there is one such list of the same texts.
use Rattle.std.proofs.Common.{◌≡◌, ℕ, ◌+◌, ◌-◌, ◌<◌, ◌≤◌, ◌⊎◌, inl, inr, List, [], ◌∷◌, length, length-drop, drop, get_or, Bool, true, ◌&&◌, refl, sym, ◌∙◌, ap, arith, zero, suc}
use Rattle.std.specs.declared.cmp.Ordering.{Ordering}
use Rattle.std.specs.declared.cmp.Ordering.TheVariants.{Less, Equal, Greater}
use Rattle.std.specs.Ordering.{nat_cmp, ordering_reverse, is_lt}
use Rattle.std.specs.Cmp.Lexicographic.{slice_cmp, nat_list_cmp_total, nat_list_eq_equiv, texts_ties, pointwise, bytes_decides}
use Rattle.std.specs.List.{Contains, dedup, list_all}
use Rattle.std.specs.List.Sorted.{IsPermutation, IsSorted, IsStrictlySortedBy}
use Rattle.std.specs.FinMap.{slice_cmp-IsAntisymmetric, nat_cmp-IsAntisymmetric}
use Rattle.std.specs.Prelude.{nat_eq}
use Rattle.std.proofs.lemmas.Cmp.{tied_itself}
use Rattle.std.proofs.lemmas.Bool.{and_from, and_parts}
use Rattle.std.proofs.lemmas.List.{drop_more}
use Rattle.std.proofs.lemmas.List.Elements.{All-contains}
use Rattle.std.proofs.lemmas.List.Kept.{IsStrictlySortedBy-dedup, Contains-dedup, Contains-from_dedup}
use Rattle.std.proofs.lemmas.List.Sorted.{Contains-permutation, IsPermutation-sym}
use Rattle.std.proofs.lemmas.Map.Views.{All-after_first}
use Rattle.std.proofs.lemmas.Map.Keys.{sorted_tail}
use Rattle.target_expr.specs.Kept.{by_order, put_in, in_order, rise, text_below}

abbrev Text : Type 0
Text = List ℕ

abbrev order : Text → Text → Ordering
order = slice_cmp nat_cmp

-- ---- what stands in a list

abbrev pub Has : List ℕ → List (List ℕ) → Type 0
Has z [] = ⊥
Has z (x ∷ xs) = (z ≡ x) ⊎ Has z xs

pub has_from_contains : (xs : List Text) (z : Text) → Contains xs z → Has z xs
has_from_contains xs z (k, within, is) = at xs k within is
  where
    at : (xs : List Text) (k : ℕ) → k < length xs → get_or xs k z ≡ z → Has z xs
    at [] k within is = absurd (omega arith)
    at (x ∷ xs) zero within is = inl (sym is)
    at (x ∷ xs) (suc k) within is = inr (at xs k (omega arith) is)

pub contains_from_has : (xs : List Text) (z : Text) → Has z xs → Contains xs z
contains_from_has [] z h = absurd h
contains_from_has (x ∷ xs) z (inl e) = (zero, omega arith, sym e)
contains_from_has (x ∷ xs) z (inr h) =
    let (k, within, is) = contains_from_has xs z h in
    (suc k, omega arith, is)

-- ---- lists in strict order

abbrev pub Up : List (List ℕ) → Type 0
Up [] = Unit {0}
Up (x ∷ xs) = ((z : Text) → Has z xs → order x z ≡ Less) × Up xs

itself : (x : Text) → order x x ≡ Equal
itself x = tied_itself nat_list_cmp_total x

pub same_text : (x y : Text) → order x y ≡ Equal → x ≡ y
same_text = slice_cmp-IsAntisymmetric nat_cmp-IsAntisymmetric

not_both : (x y : Text) → order x y ≡ Less → order y x ≡ Less → ⊥
not_both x y a b =
    let turned : order x y ≡ Greater = nat_list_cmp_total.antisymm x y ∙ ap ordering_reverse b in
    cc

not_below_itself : (x : Text) → order x x ≡ Less → ⊥
not_below_itself x a = let e : order x x ≡ Equal = itself x in cc

-- of two lists with the same texts in strict order the first texts are one
same_heads : (x y : Text) (xs ys : List Text) → Up (x ∷ xs) → Up (y ∷ ys) → Has x (y ∷ ys) → Has y (x ∷ xs) → x ≡ y
same_heads x y xs ys up upper (inl e) k = e
same_heads x y xs ys up upper (inr h) (inl e) = sym e
same_heads x y xs ys up upper (inr h) (inr k) = absurd (not_both x y (up.0 y k) (upper.0 x h))

-- what stands in the rest of one stands in the rest of the other
in_rest : (x y z : Text) (xs ys : List Text) → x ≡ y → Up (x ∷ xs) → Has z xs → Has z (y ∷ ys) → Has z ys
in_rest x y z xs ys e up h (inr k) = k
in_rest x y z xs ys e up h (inl f) = absurd (not_below_itself x (ap (order x) (e ∙ sym f) ∙ up.0 z h))

pub one_order : (xs ys : List Text) → Up xs → Up ys → ((z : Text) → Has z xs → Has z ys) → ((z : Text) → Has z ys → Has z xs) → xs ≡ ys
one_order [] [] up upper to back = refl
one_order [] (y ∷ ys) up upper to back = absurd (back y (inl refl))
one_order (x ∷ xs) [] up upper to back = absurd (to x (inl refl))
one_order (x ∷ xs) (y ∷ ys) up upper to back =
    let e : x ≡ y = same_heads x y xs ys up upper (to x (inl refl)) (back y (inl refl)) in
    let rest : xs ≡ ys = one_order xs ys up.1 upper.1
    (λ z h. in_rest x y z xs ys e up h (to z (inr h)))
    (λ z h. in_rest y x z ys xs (sym e) upper h (back z (inr h))) in
    cc

-- ---- a text put at its place

to_cases : (t x z : Text) (xs put : List Text) (o : Ordering) → order t x ≡ o → ((w : Text) → Has w put → (w ≡ t) ⊎ Has w xs) → Has z (by_order o (t ∷ x ∷ xs) (x ∷ xs) (x ∷ put)) → (z ≡ t) ⊎ Has z (x ∷ xs)
to_cases t x z xs put Less e hyp h = h
to_cases t x z xs put Equal e hyp h = inr h
to_cases t x z xs put Greater e hyp (inl f) = inr (inl f)
to_cases t x z xs put Greater e hyp (inr h) = elim (hyp z h) [ inl f ↦ inl f | inr k ↦ inr (inr k) ]

pub has_put : (t : Text) (xs : List Text) (z : Text) → Has z (put_in t xs) → (z ≡ t) ⊎ Has z xs
has_put t [] z h = h
has_put t (x ∷ xs) z h = to_cases t x z xs (put_in t xs) (order t x) refl (λ w k. has_put t xs w k) h

from_cases : (t x z : Text) (xs put : List Text) (o : Ordering) → order t x ≡ o → ((w : Text) → (w ≡ t) ⊎ Has w xs → Has w put) → (z ≡ t) ⊎ Has z (x ∷ xs) → Has z (by_order o (t ∷ x ∷ xs) (x ∷ xs) (x ∷ put))
from_cases t x z xs put Less e hyp h = h
from_cases t x z xs put Equal e hyp (inl f) = inl (f ∙ same_text t x e)
from_cases t x z xs put Equal e hyp (inr h) = h
from_cases t x z xs put Greater e hyp (inl f) = inr (hyp z (inl f))
from_cases t x z xs put Greater e hyp (inr (inl f)) = inl f
from_cases t x z xs put Greater e hyp (inr (inr h)) = inr (hyp z (inr h))

pub put_has : (t : Text) (xs : List Text) (z : Text) → (z ≡ t) ⊎ Has z xs → Has z (put_in t xs)
put_has t [] z h = h
put_has t (x ∷ xs) z h = from_cases t x z xs (put_in t xs) (order t x) refl (λ w k. put_has t xs w k) h

above : (t x z : Text) (xs : List Text) → Up (x ∷ xs) → order t x ≡ Less → Has z (x ∷ xs) → order t z ≡ Less
above t x z xs up e (inl f) = ap (order t) f ∙ e
above t x z xs up e (inr h) = nat_list_cmp_total.trans t x z e (up.0 z h)

up_cases : (t x : Text) (xs put : List Text) (o : Ordering) → order t x ≡ o → Up (x ∷ xs) → Up put → ((w : Text) → Has w put → (w ≡ t) ⊎ Has w xs) → Up (by_order o (t ∷ x ∷ xs) (x ∷ xs) (x ∷ put))
up_cases t x xs put Less e up upper hyp = (λ z h. above t x z xs up e h, up)
up_cases t x xs put Equal e up upper hyp = up
up_cases t x xs put Greater e up upper hyp = (
  λ z h. elim (hyp z h) [
    | inl f ↦ ap (order x) f ∙ nat_list_cmp_total.antisymm x t ∙ ap ordering_reverse e
    | inr k ↦ up.0 z k
  ],
  upper,
)

pub up_put : (t : Text) (xs : List Text) → Up xs → Up (put_in t xs)
up_put t [] up = (λ z h. absurd h, tt)
up_put t (x ∷ xs) up = up_cases t x xs (put_in t xs) (order t x) refl up (up_put t xs up.1) (λ w h. has_put t xs w h)

-- ---- the texts in order

pub up_in_order : (ts : List Text) → Up (in_order ts)
up_in_order [] = tt
up_in_order (t ∷ ts) = up_put t (in_order ts) (up_in_order ts)

pub has_in_order : (ts : List Text) (z : Text) → Has z (in_order ts) → Has z ts
has_in_order [] z h = h
has_in_order (t ∷ ts) z h = elim (has_put t (in_order ts) z h) [ inl e ↦ inl e | inr k ↦ inr (has_in_order ts z k) ]

pub in_order_has : (ts : List Text) (z : Text) → Has z ts → Has z (in_order ts)
in_order_has [] z h = h
in_order_has (t ∷ ts) z (inl e) = put_has t (in_order ts) z (inl e)
in_order_has (t ∷ ts) z (inr h) = put_has t (in_order ts) z (inr (in_order_has ts z h))

-- ---- what a sort and the removal of repeats leave

up_from_sorted : (xs : List Text) → IsStrictlySortedBy order xs → Up xs
up_from_sorted [] s = tt
up_from_sorted (x ∷ xs) s =
    (λ z h. All-contains (λ q. order x q ≡ Less) xs z (All-after_first order x xs s) (contains_from_has xs z h), up_from_sorted xs (sorted_tail order x xs s))

equal_bytes : (x y : Text) → pointwise nat_eq x y ≡ true → x ≡ y
equal_bytes x y e = (bytes_decides x y).0 e

pub sorted_is_in_order : (ts sorted : List Text) → IsPermutation ts sorted → IsSorted order sorted → dedup (pointwise nat_eq) sorted ≡ in_order ts
sorted_is_in_order ts sorted moved rising =
    one_order (dedup (pointwise nat_eq) sorted) (in_order ts)
    (up_from_sorted _ (IsStrictlySortedBy-dedup nat_list_cmp_total texts_ties sorted rising))
    (up_in_order ts)
    (λ z h. in_order_has ts z (has_from_contains ts z (Contains-permutation sorted ts z (IsPermutation-sym ts sorted moved) (Contains-from_dedup (pointwise nat_eq) sorted z (contains_from_has _ z h)))))
    (λ z h. has_from_contains _ z (Contains-dedup nat_list_eq_equiv equal_bytes sorted z (Contains-permutation ts sorted z moved (contains_from_has ts z (has_in_order ts z h)))))

-- ---- texts that rise already

first_stays : (x : Text) (a b : List Text) (o : Ordering) → is_lt o ≡ true → by_order o (x ∷ a) a b ≡ x ∷ a
first_stays x a b Less e = refl
first_stays x a b Equal e = cc
first_stays x a b Greater e = cc

pub risen_in_order : (ts : List Text) → rise text_below ts ≡ true → in_order ts ≡ ts
risen_in_order [] e = refl
risen_in_order (x ∷ []) e = refl
risen_in_order (x ∷ y ∷ ts) e =
    let parts = and_parts (text_below x y) (rise text_below (y ∷ ts)) e in
    ap (put_in x) (risen_in_order (y ∷ ts) parts.1) ∙ first_stays x (y ∷ ts) (y ∷ put_in x ts) (order x y) parts.0

-- ---- as tests

pub rise_from_up : (xs : List Text) → Up xs → rise text_below xs ≡ true
rise_from_up [] up = refl
rise_from_up (x ∷ []) up = refl
rise_from_up (x ∷ y ∷ xs) up = and_from _ _ (ap is_lt (up.0 y (inl refl))) (rise_from_up (y ∷ xs) up.1)

pub all_from_has : (p : Text → Bool) (xs : List Text) → ((z : Text) → Has z xs → p z ≡ true) → list_all p xs ≡ true
all_from_has p [] h = refl
all_from_has p (x ∷ xs) h = and_from (p x) (list_all p xs) (h x (inl refl)) (all_from_has p xs (λ z k. h z (inr k)))

pub has_passes : (p : Text → Bool) (xs : List Text) → list_all p xs ≡ true → (z : Text) → Has z xs → p z ≡ true
has_passes p [] all z h = absurd h
has_passes p (x ∷ xs) all z (inl e) = ap p e ∙ (and_parts (p x) (list_all p xs) all).0
has_passes p (x ∷ xs) all z (inr h) = has_passes p xs (and_parts (p x) (list_all p xs) all).1 z h

-- ---- how many there are

length_put_by : (t x : Text) (xs put : List Text) (o : Ordering) → length put ≤ length xs + 1 → length (by_order o (t ∷ x ∷ xs) (x ∷ xs) (x ∷ put)) ≤ length (x ∷ xs) + 1
length_put_by t x xs put Less le = omega arith
length_put_by t x xs put Equal le = omega arith
length_put_by t x xs put Greater le = omega arith

pub length_put : (t : Text) (xs : List Text) → length (put_in t xs) ≤ length xs + 1
length_put t [] = omega arith
length_put t (x ∷ xs) = length_put_by t x xs (put_in t xs) (order t x) (length_put t xs)

pub length_in_order : (ts : List Text) → length (in_order ts) ≤ length ts
length_in_order [] = omega arith
length_in_order (t ∷ ts) = omega (arith, length_put t (in_order ts), length_in_order ts)

some_put_by : (t x : Text) (xs put : List Text) (o : Ordering) → 0 < length (by_order o (t ∷ x ∷ xs) (x ∷ xs) (x ∷ put))
some_put_by t x xs put Less = omega arith
some_put_by t x xs put Equal = omega arith
some_put_by t x xs put Greater = omega arith

some_put : (t : Text) (xs : List Text) → 0 < length (put_in t xs)
some_put t [] = omega arith
some_put t (x ∷ xs) = some_put_by t x xs (put_in t xs) (order t x)

pub some_in_order : (ts : List Text) → 0 < length ts → 0 < length (in_order ts)
some_in_order [] h = absurd (omega arith)
some_in_order (t ∷ ts) h = some_put t (in_order ts)

-- ---- one place after the other

pub rise_step : {A : Type 0} (below : A → A → Bool) (xs : List A) (i : ℕ) (d : A) → 1 ≤ i → i < length xs → rise below (drop (i - 1) xs) ≡ (below (get_or xs (i - 1) d) (get_or xs i d) && rise below (drop i xs))
rise_step below xs i d some h =
    let back : i - 1 + 1 ≡ i = omega arith in
    let next : drop i xs ≡ get_or xs i d ∷ drop (i + 1) xs = drop_more xs i d h in
    ap (rise below) (drop_more xs (i - 1) d (omega arith) ∙ ap (λ k. get_or xs (i - 1) d ∷ drop k xs) back ∙ ap (λ l. get_or xs (i - 1) d ∷ l) next)
    ∙ ap (λ l. below (get_or xs (i - 1) d) (get_or xs i d) && rise below l) (sym next)

rise_short : {A : Type 0} (below : A → A → Bool) (xs : List A) → length xs ≤ 1 → rise below xs ≡ true
rise_short below [] h = refl
rise_short below (x ∷ []) h = refl
rise_short below (x ∷ y ∷ xs) h = absurd (omega arith)

pub rise_end : {A : Type 0} (below : A → A → Bool) (xs : List A) (i : ℕ) → 1 ≤ i → length xs ≤ i → rise below (drop (i - 1) xs) ≡ true
rise_end below xs i some h = rise_short below (drop (i - 1) xs) (omega (arith, length-drop (i - 1) xs))
