-- A list of different items among others: it is no longer than they are, and where it is as long it has them all.
use Rattle.std.proofs.Common.{◌≡◌, ℕ, ◌+◌, ◌<◌, ◌≤◌, ◌⊎◌, inl, inr, List, [], ◌∷◌, ◌++◌, length, refl, sym, ◌∙◌, ap, subst, arith}
use Rattle.std.proofs.lemmas.List.{length-append}
use Rattle.cnf_match.proofs.Members.{Has, has_either, has_left, has_right}

abbrev pub Distinct : {X : Type 0} → List X → Type 0
Distinct [] = Unit {0}
Distinct (x ∷ xs) = (Has x xs → ⊥) × Distinct xs

parted : {X : Type 0} (ys : List X) (x : X) → Has x ys → (front back : List X) × (ys ≡ front ++ x ∷ back)
parted [] x h = absurd h
parted {X} (y ∷ ys) x (inl e) = ([], ys, ap (λ (z : X). z ∷ ys) (sym e))
parted (y ∷ ys) x (inr h) = let (front, back, is) = parted ys x h in (y ∷ front, back, ap (λ l. y ∷ l) is)

-- what is another item stands beside it
beside : {X : Type 0} (front back : List X) (x z : X) → (z ≡ x → ⊥) → Has z (front ++ x ∷ back) → Has z (front ++ back)
beside front back x z other h = elim (has_either front (x ∷ back) z h) [
  | inl k ↦ has_left front back z k
  | inr (inl e) ↦ absurd (other e)
  | inr (inr k) ↦ has_right front back z k
]

pub no_longer : {X : Type 0} (xs ys : List X) → Distinct xs → ((z : X) → Has z xs → Has z ys) → length xs ≤ length ys
no_longer [] ys apart to = omega arith
no_longer {X} (x ∷ xs) ys apart to =
    let (front, back, is) = parted ys x (to x (inl refl)) in
    let rest : length xs ≤ length (front ++ back) = no_longer xs (front ++ back) apart.1
    (λ z h. beside front back x z (λ e. apart.0 (subst (λ (w : X). Has w xs) e h)) (subst (λ (l : List X). Has z l) is (to z (inr h)))) in
    omega (arith, rest, ap length is, length-append front (x ∷ back), length-append front back)

pub has_all : {X : Type 0} (xs ys : List X) → Distinct xs → ((z : X) → Has z xs → Has z ys) → length ys ≤ length xs → (z : X) → Has z ys → Has z xs
has_all [] [] apart to few z h = absurd h
has_all [] (y ∷ ys) apart to few z h = absurd (omega (arith, few))
has_all {X} (x ∷ xs) ys apart to few z h =
    let (front, back, is) = parted ys x (to x (inl refl)) in
    let rest : length (front ++ back) ≤ length xs = omega (arith, few, ap length is, length-append front (x ∷ back), length-append front back) in
    let later = has_all xs (front ++ back) apart.1
    (λ w k. beside front back x w (λ e. apart.0 (subst (λ (v : X). Has v xs) e k)) (subst (λ (l : List X). Has w l) is (to w (inr k)))) rest z in
    elim (has_either front (x ∷ back) z (subst (λ (l : List X). Has z l) is h)) [
      | inl k ↦ inr (later (has_left front back z k))
      | inr (inl e) ↦ inl e
      | inr (inr k) ↦ inr (later (has_right front back z k))
    ]
