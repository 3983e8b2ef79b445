-- Lists that grow by what the next item gives, and tests that go on to the next item.
use Rattle.std.proofs.Common.{◌≡◌, ℕ, suc, ◌+◌, ◌<◌, List, [], ◌∷◌, ◌++◌, length, take, get_or, Bool, true, false, not, ◌&&◌, cond, Option, Some, None, is_some, position, nat_lt, ◌∙◌, ap, refl, sym, arith}
use Rattle.std.specs.List.{filter_map, list_all, list_any, position_or_len}
use Rattle.std.proofs.lemmas.Bool.{lt-ltb, or_from, or_parts}
use Rattle.std.proofs.lemmas.Bool.Decides.{nat_tests}
use Rattle.std.proofs.lemmas.List.{take_more}
use Rattle.std.proofs.lemmas.List.Elements.{filter_map-append}
use Rattle.std.proofs.lemmas.List.Folds.{list_any-append}
use Rattle.target_expr.proofs.Finds.{place_here}

pub given_one_more : {A B : Type 0} (f : A → Option B) (xs : List A) (x : A) → filter_map f (xs ++ x ∷ []) ≡ filter_map f xs ++ filter_map f (x ∷ [])
given_one_more f xs x = filter_map-append f xs (x ∷ [])

pub none_passes_more : {A : Type 0} (p : A → Bool) (xs : List A) (i : ℕ) (d : A) → i < length xs → list_any p (take i xs) ≡ false → p (get_or xs i d) ≡ false
    → list_any p (take (i + 1) xs) ≡ false
none_passes_more p xs i d h none fails = ap (list_any p) (take_more xs i d h) ∙ list_any-append p (take i xs) (get_or xs i d ∷ []) ∙ or_from _ _ none (or_from _ _ fails refl)

-- the first place that passes
pub placed_at : {A : Type 0} (p : A → Bool) (xs : List A) (i : ℕ) (d : A) → i < length xs → list_any p (take i xs) ≡ false → p (get_or xs i d) ≡ true → position p xs ≡ Some i
placed_at p xs i d h none here =
    ap (λ n. cond (nat_lt n (length xs)) (Some n) None) (place_here p xs i d h none here) ∙ ap (λ b. cond b (Some i) None) (lt-ltb i (length xs) h)

is_within : (n m : ℕ) → is_some (cond (nat_lt n m) (Some n) None) ≡ nat_lt n m
is_within n m = elim (nat_lt n m) as (λ b. is_some (cond b (Some n) None) ≡ b) [
  | true ↦ refl
  | false ↦ refl
]

one_further : (n m : ℕ) → nat_lt (1 + n) (suc m) ≡ nat_lt n m
one_further n m = grind (arith, nat_tests)

begins : (m : ℕ) → nat_lt 0 (suc m) ≡ true
begins m = lt-ltb 0 (suc m) (omega arith)

-- all pass exactly where there is no first that does not
pub all_where_none : {A : Type 0} (p : A → Bool) (xs : List A) → list_all p xs ≡ not (is_some (position (λ x. not (p x)) xs))
all_where_none p [] = refl
all_where_none {A} p (x ∷ xs) =
    let q : A → Bool = λ x. not (p x) in
    let n = position_or_len q xs in
    let rest : list_all p xs ≡ not (nat_lt n (length xs)) = all_where_none p xs ∙ ap not (is_within n (length xs)) in
    let step : (b : Bool) → (b && list_all p xs) ≡ not (nat_lt (cond (not (not b)) (1 + n) 0) (suc (length xs))) =
    λ b. elim b as (λ b. (b && list_all p xs) ≡ not (nat_lt (cond (not (not b)) (1 + n) 0) (suc (length xs)))) [
      | true ↦ rest ∙ ap not (sym (one_further n (length xs)))
      | false ↦ ap not (sym (begins (length xs)))
    ] in
    step (p x) ∙ ap not (sym (is_within (position_or_len q (x ∷ xs)) (suc (length xs))))

none_at_all : {A : Type 0} (p : A → Bool) (xs : List A) → list_any p xs ≡ false → position_or_len p xs ≡ length xs
none_at_all p [] e = refl
none_at_all p (x ∷ xs) e =
    let parts = or_parts (p x) (list_any p xs) e in
    let rest : position_or_len p xs ≡ length xs = none_at_all p xs parts.1 in
    ap (λ b. cond (not b) (1 + position_or_len p xs) 0) parts.0 ∙ omega (arith, rest)

past : (n : ℕ) → nat_lt n n ≡ false
past n = grind (arith, nat_tests)

-- no place passes
pub placed_nowhere : {A : Type 0} (p : A → Bool) (xs : List A) → list_any p xs ≡ false → position p xs ≡ None
placed_nowhere p xs none =
    ap (λ n. cond (nat_lt n (length xs)) (Some n) None) (none_at_all p xs none) ∙ ap (λ b. cond b (Some (length xs)) None) (past (length xs))
