-- The elements at the places of a list that grows or changes, and campaigns by their numbers.
use Rattle.std.proofs.Common.{◌≡◌, ◌≢◌, ℕ, zero, suc, ◌+◌, ◌-◌, ◌≤◌, ◌⊎◌, inl, inr, eqb, cond, List, [], ◌∷◌, ◌++◌, length, set, map, refl, sym, ◌∙◌, ap, subst, arith, Option, Some, None}
use Rattle.std.specs.Prelude.{slice_get, sum_by}
use Rattle.std.proofs.lemmas.Bool.{ne_eqb}
use Rattle.std.proofs.lemmas.List.Sums.{sum_by-set}
use Rattle.std.proofs.lemmas.Option.{get_or_from_slice_get, slice_get_within}
use Rattle.plain_exchange.specs.State.{Campaign, State, campaign_at}
use Rattle.plain_exchange.proofs.Each.{Each, none_some, some_same}

-- ---- places

pub pushed : {A : Type 0} (xs : List A) (y : A) (i : ℕ) (x : A) → slice_get (xs ++ y ∷ []) i ≡ Some x → (slice_get xs i ≡ Some x) ⊎ ((i ≡ length xs) × (y ≡ x))
pushed [] y zero x e = inr (refl, some_same y x e)
pushed [] y (suc i) x e = absurd (none_some x e)
pushed (z ∷ xs) y zero x e = inl e
pushed (z ∷ xs) y (suc i) x e = elim (pushed xs y i x e) [ inl k ↦ inl k | inr k ↦ inr (ap suc k.0, k.1) ]

pub replaced : {A : Type 0} (xs : List A) (y : A) (i j : ℕ) (x : A) → slice_get (set xs i y) j ≡ Some x → ((j ≡ i) × (y ≡ x)) ⊎ ((j ≢ i) × (slice_get xs j ≡ Some x))
replaced [] y i j x e = absurd (none_some x e)
replaced (z ∷ xs) y zero zero x e = inl (refl, some_same y x e)
replaced (z ∷ xs) y zero (suc j) x e = inr ((λ k. omega (arith, k)), e)
replaced (z ∷ xs) y (suc i) zero x e = inr ((λ k. omega (arith, k)), e)
replaced (z ∷ xs) y (suc i) (suc j) x e = elim (replaced xs y i j x e) [ inl k ↦ inl (ap suc k.0, k.1) | inr k ↦ inr ((λ l. k.0 (omega (arith, l))), k.1) ]

-- what a sum loses and gains where an element is replaced
pub sum_replaced : {A : Type 0} (f : A → ℕ) (xs : List A) (i : ℕ) (x y : A) → slice_get xs i ≡ Some x → sum_by f (set xs i y) + f x ≡ sum_by f xs + f y
sum_replaced f xs i x y at = ap (λ z. sum_by f (set xs i y) + f z) (sym (get_or_from_slice_get xs i x y at)) ∙ sum_by-set f xs i y y (slice_get_within xs i x at)

-- where it counts as much, nothing
pub sum_kept : {A : Type 0} (f : A → ℕ) (xs : List A) (i : ℕ) (x y : A) → slice_get xs i ≡ Some x → f y ≡ f x → sum_by f (set xs i y) ≡ sum_by f xs
sum_kept f xs i x y at same = omega (arith, sum_replaced f xs i x y at, same)

pub map_kept : {A B : Type 0} (f : A → B) (xs : List A) (i : ℕ) (x y : A) → slice_get xs i ≡ Some x → f y ≡ f x → map f (set xs i y) ≡ map f xs
map_kept f [] i x y at same = refl
map_kept f (z ∷ xs) zero x y at same = ap (λ (b : _). b ∷ map f xs) (same ∙ ap f (sym (some_same z x at)))
map_kept f (z ∷ xs) (suc i) x y at same = ap (λ l. f z ∷ l) (map_kept f xs i x y at same)

pub each_replaced : {A : Type 0} (P : A → Type 0) (xs : List A) (i : ℕ) (y : A) → Each P xs → P y → Each P (set xs i y)
each_replaced P [] i y h p = tt
each_replaced P (x ∷ xs) zero y h p = (p, h.1)
each_replaced P (x ∷ xs) (suc i) y h p = (h.0, each_replaced P xs i y h.1 p)

pub each_at : {A : Type 0} (P : A → Type 0) (xs : List A) (i : ℕ) (x : A) → Each P xs → slice_get xs i ≡ Some x → P x
each_at P [] i x h e = absurd (none_some x e)
each_at P (z ∷ xs) zero x h e = subst P (some_same z x e) h.0
each_at P (z ∷ xs) (suc i) x h e = each_at P xs i x h.1 e

-- ---- campaigns by number

pub some_at : {A : Type 0} (n : ℕ) (o : Option A) (x : A) → cond (eqb n 0) None o ≡ Some x → (1 ≤ n) × (o ≡ Some x)
some_at zero o x e = absurd (none_some x e)
some_at (suc n) o x e = (omega arith, sym (ap (λ b. cond b None o) (ne_eqb (suc n) 0 (λ k. omega (arith, k)))) ∙ e)

pub at_place : (s : State) (n : ℕ) (c : Campaign) → campaign_at s n ≡ Some c → (1 ≤ n) × (slice_get s.campaigns (n - 1) ≡ Some c)
at_place s n c e = some_at n (slice_get s.campaigns (n - 1)) c e

pub numbered : {A : Type 0} (n : ℕ) (o : Option A) (x : A) → 1 ≤ n → o ≡ Some x → cond (eqb n 0) None o ≡ Some x
numbered zero o x le e = absurd (omega arith)
numbered (suc n) o x le e = ap (λ b. cond b None o) (ne_eqb (suc n) 0 (λ k. omega (arith, k))) ∙ e

pub same_number : (m n : ℕ) → 1 ≤ m → 1 ≤ n → m - 1 ≡ n - 1 → m ≡ n
same_number m n a b e = omega arith
