-- Which of two texts is below the other, by the first bytes in which they differ.
use Rattle.std.proofs.Common.{◌≡◌, ℕ, ◌<◌, ◌≤◌, List, [], ◌∷◌, length, take, get_or, Bool, true, false, cond, nat_lt, nat_eq, refl, sym, ◌∙◌, ap, arith, zero, suc, min}
use Rattle.std.specs.declared.cmp.Ordering.{Ordering}
use Rattle.std.specs.declared.cmp.Ordering.TheVariants.{Less, Equal, Greater}
use Rattle.std.specs.Ordering.{nat_cmp, is_lt, ordering_then}
use Rattle.std.specs.Cmp.Lexicographic.{slice_cmp}
use Rattle.std.proofs.lemmas.Bool.{eqb-true, lt-ltb}
use Rattle.std.proofs.lemmas.Bool.Decides.{nat_tests}
use Rattle.std.proofs.lemmas.Cmp.{tied_itself, nat_cmp_total}
use Rattle.target_expr.specs.Kept.{text_below}

-- a byte that is the same in both says nothing
below_behind : (x : ℕ) (xs ys : List ℕ) → text_below (x ∷ xs) (x ∷ ys) ≡ text_below xs ys
below_behind x xs ys = ap (λ o. is_lt (ordering_then o (slice_cmp nat_cmp xs ys))) (tied_itself nat_cmp_total x)

are_not_one : (x y : ℕ) → (x ≡ y → ⊥) → nat_eq x y ≡ false
are_not_one x y differ = elim (nat_eq x y) as (λ b. nat_eq x y ≡ b → nat_eq x y ≡ false) [
  | true ↦ λ e. absurd (differ (eqb-true x y e))
  | false ↦ λ e. e
] refl

below_by : (lt eq : Bool) (o : Ordering) → eq ≡ false → is_lt (ordering_then (cond lt Less (cond eq Equal Greater)) o) ≡ lt
below_by true eq o e = refl
below_by false true o e = cc
below_by false false o e = refl

-- the first that differs tells
pub below_at : (i : ℕ) (a b : List ℕ) (d e : ℕ) → take i a ≡ take i b → i < length a → i < length b → (get_or a i d ≡ get_or b i e → ⊥)
    → text_below a b ≡ nat_lt (get_or a i d) (get_or b i e)
below_at zero [] b d e same within inside differ = absurd (omega arith)
below_at zero (x ∷ a) [] d e same within inside differ = absurd (omega arith)
below_at zero (x ∷ a) (y ∷ b) d e same within inside differ = below_by (nat_lt x y) (nat_eq x y) (slice_cmp nat_cmp a b) (are_not_one x y differ)
below_at (suc i) [] b d e same within inside differ = absurd (omega arith)
below_at (suc i) (x ∷ a) [] d e same within inside differ = absurd (omega arith)
below_at (suc i) (x ∷ a) (y ∷ b) d e same within inside differ =
    let head : x ≡ y = cc in
    let rest : take i a ≡ take i b = cc in
    ap (λ z. text_below (x ∷ a) (z ∷ b)) (sym head) ∙ below_behind x a b ∙ below_at i a b d e rest (omega arith) (omega arith) differ

neither_below : (n : ℕ) → nat_lt n n ≡ false
neither_below n = grind (arith, nat_tests)

none_below : (n : ℕ) → nat_lt (suc n) 0 ≡ false
none_below n = grind (arith, nat_tests)

both_longer : (n m : ℕ) → nat_lt n m ≡ nat_lt (suc n) (suc m)
both_longer n m = grind (arith, nat_tests)

-- where none differs the shorter one is below
pub below_end : (i : ℕ) (a b : List ℕ) → take i a ≡ take i b → i ≤ length a → i ≤ length b → min (length a) (length b) ≤ i → text_below a b ≡ nat_lt (length a) (length b)
below_end zero [] [] same within inside h = sym (neither_below 0)
below_end zero [] (y ∷ b) same within inside h = sym (lt-ltb 0 (suc (length b)) (omega arith))
below_end zero (x ∷ a) [] same within inside h = sym (none_below (length a))
below_end zero (x ∷ a) (y ∷ b) same within inside h = absurd (omega (arith, h))
below_end (suc i) [] b same within inside h = absurd (omega arith)
below_end (suc i) (x ∷ a) [] same within inside h = absurd (omega arith)
below_end (suc i) (x ∷ a) (y ∷ b) same within inside h =
    let head : x ≡ y = cc in
    let rest : take i a ≡ take i b = cc in
    ap (λ z. text_below (x ∷ a) (z ∷ b)) (sym head) ∙ below_behind x a b ∙ below_end i a b rest (omega arith) (omega arith) (omega (arith, h)) ∙ both_longer (length a) (length b)
