-- Small laws on lists and pairs, for this crate and those above it.
use Rattle.std.proofs.Common.{◌≡◌, ℕ, List, [], ◌∷◌, ◌++◌, refl}

pub heads : (c d : ℕ) (s t : List ℕ) → c ∷ s ≡ d ∷ t → c ≡ d
heads c d s t e = cc

pub tails : (c d : ℕ) (s t : List ℕ) → c ∷ s ≡ d ∷ t → s ≡ t
tails c d s t e = cc

pub both_nil : {A : Type 0} (xs ys : List A) → xs ++ ys ≡ [] → (xs ≡ []) × (ys ≡ [])
both_nil [] ys e = (refl, e)
both_nil (x ∷ xs) ys e = (cc, cc)

pub both_same : {A B : Type 0} (x x' : A) (y y' : B) → x ≡ x' → y ≡ y' → ◌≡◌ {A = A × B} (x, y) (x', y')
both_same x x' y y' e f = cc
