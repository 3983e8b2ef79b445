-- What holds of each element of a list.
use Rattle.std.proofs.Common.{◌≡◌, ℕ, suc, ◌+◌, ◌&&◌, cond, Bool, true, false, List, [], ◌∷◌, ◌++◌, refl, ◌∙◌, ap, subst, arith, Option, Some, None}
use Rattle.std.specs.Prelude.{find, slice_get}
use Rattle.std.specs.List.{cons_option, enumerate_from, flat_map, filter_map, list_all}
use Rattle.std.proofs.lemmas.Bool.{and_parts}

abbrev pub Each : {A : Type 0} → (A → Type 0) → List A → Type 0
Each P [] = Unit {0}
Each P (x ∷ xs) = P x × Each P xs

pub each_append : {A : Type 0} (P : A → Type 0) (xs ys : List A) → Each P xs → Each P ys → Each P (xs ++ ys)
each_append P [] ys h k = k
each_append P (x ∷ xs) ys h k = (h.0, each_append P xs ys h.1 k)

pub each_flat : {A B : Type 0} (P : B → Type 0) (f : A → List B) (xs : List A) → Each (λ x. Each P (f x)) xs → Each P (flat_map f xs)
each_flat P f [] h = tt
each_flat P f (x ∷ xs) h = each_append P (f x) (flat_map f xs) h.0 (each_flat P f xs h.1)

pub each_mapped : {A : Type 0} (P Q : A → Type 0) → ((x : A) → P x → Q x) → (xs : List A) → Each P xs → Each Q xs
each_mapped P Q f [] h = tt
each_mapped P Q f (x ∷ xs) h = (f x h.0, each_mapped P Q f xs h.1)

pub each_both : {A : Type 0} (P Q : A → Type 0) (xs : List A) → Each P xs → Each Q xs → Each (λ x. P x × Q x) xs
each_both P Q [] h k = tt
each_both P Q (x ∷ xs) h k = ((h.0, k.0), each_both P Q xs h.1 k.1)

-- what a test of all says
pub each_of_all : {A : Type 0} (p : A → Bool) (xs : List A) → list_all p xs ≡ true → Each (λ x. p x ≡ true) xs
each_of_all p [] e = tt
each_of_all p (x ∷ xs) e = let parts = and_parts (p x) (list_all p xs) e in (parts.0, each_of_all p xs parts.1)

pub all_of_each : {A : Type 0} (p : A → Bool) (xs : List A) → Each (λ x. p x ≡ true) xs → list_all p xs ≡ true
all_of_each p [] h = refl
all_of_each p (x ∷ xs) h = ap (λ b. b && list_all p xs) h.0 ∙ all_of_each p xs h.1

-- the element, where there is one
abbrev pub At : {A : Type 0} → (A → Type 0) → Option A → Type 0
At P None = Unit {0}
At P (Some x) = P x

each_cons : {B : Type 0} (P : B → Type 0) (o : Option B) (ys : List B) → At P o → Each P ys → Each P (cons_option o ys)
each_cons P None ys p h = h
each_cons P (Some y) ys p h = (p, h)

pub each_filtered : {A B : Type 0} (P : B → Type 0) (f : A → Option B) (xs : List A) → Each (λ x. At P (f x)) xs → Each P (filter_map f xs)
each_filtered P f [] h = tt
each_filtered P f (x ∷ xs) h = each_cons P (f x) (filter_map f xs) h.0 (each_filtered P f xs h.1)

pub each_numbered : {A : Type 0} (Q : ℕ × A → Type 0) (n : ℕ) (xs : List A) → ((i : ℕ) (x : A) → slice_get xs i ≡ Some x → Q (n + i, x)) → Each Q (enumerate_from n xs)
each_numbered Q n [] h = tt
each_numbered Q n (x ∷ xs) h =
    let first : n + 0 ≡ n = omega arith in
    (subst (λ m. Q (m, x)) first (h 0 x refl), each_numbered Q (n + 1) xs (λ i y e. let next : n + suc i ≡ (n + 1) + i = omega arith in subst (λ m. Q (m, y)) next (h (suc i) y e)))

pub none_some : {A : Type 0} (o : A) → ◌≡◌ {A = Option A} None (Some o) → ⊥
none_some o e = cc

pub some_same : {A : Type 0} (x y : A) → Some x ≡ Some y → x ≡ y
some_same x y e = cc

found_in : {A : Type 0} (P : A → Type 0) (b : Bool) (x o : A) (rest : Option A) → P x → (rest ≡ Some o → P o) → cond b (Some x) rest ≡ Some o → P o
found_in P true x o rest p h e = let same : x ≡ o = cc in subst P same p
found_in P false x o rest p h e = h e

pub each_found : {A : Type 0} (P : A → Type 0) (p : A → Bool) (xs : List A) (o : A) → Each P xs → find p xs ≡ Some o → P o
each_found P p [] o h e = absurd (none_some o e)
each_found P p (x ∷ xs) o h e = found_in P (p x) x o (find p xs) h.0 (λ k. each_found P p xs o h.1 k) e

pub each_cond : {A : Type 0} (P : A → Type 0) (b : Bool) (xs : List A) → (b ≡ true → Each P xs) → Each P (cond b xs [])
each_cond P true xs h = h refl
each_cond P false xs h = tt

pub each_unless : {A : Type 0} (P : A → Type 0) (b : Bool) (xs : List A) → (b ≡ false → Each P xs) → Each P (cond b [] xs)
each_unless P true xs h = tt
each_unless P false xs h = h refl
