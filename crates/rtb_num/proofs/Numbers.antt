-- What digits spell, in pieces.
use Rattle.std.proofs.Common.{◌≡◌, ℕ, ◌+◌, ◌-◌, ◌*◌, ◌^◌, ◌<◌, ◌==◌, List, [], ◌∷◌, ◌++◌, length, take, true, false, arith, ◌∙◌, ap, refl, length-append, get_or, inl, inr}
use Rattle.std.proofs.lemmas.Bool.{and_parts, and_cases, eqb-true}
use Rattle.std.proofs.lemmas.Bool.Decides.{nat_tests}
use Rattle.std.proofs.lemmas.List.{take_more}
use Rattle.std.proofs.Math.Nat.{one-le-pow, pow-suc}
use Rattle.std.specs.List.{list_all}
use Rattle.std.proofs.lemmas.Nat.{pow-add, mul-add-lt, mul-lt}
use Rattle.rtb_num.specs.Amounts.{number_of, is_digit}

-- the step of `number_of`
pub number_cons : (c : ℕ) (s : List ℕ) → number_of (c ∷ s) ≡ (c - 48) * 10 ^ length s + number_of s
unfolding number_of
number_cons c s = refl

pub number_none : number_of [] ≡ 0
unfolding number_of
number_none = refl

pub number_append : (xs ys : List ℕ) → number_of (xs ++ ys) ≡ number_of xs * 10 ^ length ys + number_of ys
number_append [] ys = rw number_none (omega arith)
number_append (c ∷ xs) ys =
    let h = number_append xs ys in
    let p : 10 ^ length (xs ++ ys) ≡ 10 ^ length xs * 10 ^ length ys = ap (λ k. 10 ^ k) (length-append xs ys) ∙ pow-add 10 (length xs) (length ys) in
    number_cons c (xs ++ ys) ∙ spread (c - 48) _ _ _ _ _ _ _ p h (number_cons c xs)
  where
    spread : (d p q r n m b t : ℕ) → p ≡ q * r → n ≡ m * r + b → t ≡ d * q + m → d * p + n ≡ t * r + b
    spread d p q r n m b t e f g = rw (e, f, g) (omega arith)

-- of zeros
pub number_zeros : (xs : List ℕ) → list_all (λ c. c == 48) xs ≡ true → number_of xs ≡ 0
number_zeros [] h = number_none
number_zeros (c ∷ xs) h =
    let parts = and_parts (c == 48) (list_all (λ x. x == 48) xs) h in
    number_cons c xs ∙ both (c - 48) _ _ (ap (λ k. k - 48) (eqb-true c 48 parts.0)) (number_zeros xs parts.1)
  where
    both : (d p n : ℕ) → d ≡ 0 → n ≡ 0 → d * p + n ≡ 0
    both d p n e f = rw (e, f) (omega arith)

pub pow_ten_pos : (k : ℕ) → 0 < 10 ^ k
pow_ten_pos k = one-le-pow k 10 (omega arith)

digit_below : (c : ℕ) → is_digit c ≡ true → c - 48 < 10
digit_below c h = grind (arith, nat_tests)

digit_above : (c : ℕ) → is_digit c ≡ true → c == 48 ≡ false → 0 < c - 48
digit_above c h z = grind (arith, nat_tests)

-- digits spell less than the power of ten of their count
pub number_lt : (xs : List ℕ) → list_all is_digit xs ≡ true → number_of xs < 10 ^ length xs
number_lt [] h = rw number_none (pow_ten_pos 0)
number_lt (c ∷ xs) h =
    let parts = and_parts (is_digit c) (list_all is_digit xs) h in
    let row = mul-add-lt (c - 48) (10 ^ length xs) (number_of xs) 10 (digit_below c parts.0) (number_lt xs parts.1) in
    omega (arith, row, number_cons c xs, pow-suc 10 (length xs))

-- some of them is not 0
pub number_pos : (xs : List ℕ) → list_all is_digit xs ≡ true → list_all (λ c. c == 48) xs ≡ false → 0 < number_of xs
number_pos [] h z = cc
number_pos (c ∷ xs) h z =
    let parts = and_parts (is_digit c) (list_all is_digit xs) h in
    elim (and_cases (c == 48) (list_all (λ x. x == 48) xs) z) [
      | inl first ↦ omega (arith, number_cons c xs, mul-lt 0 0 (c - 48) (10 ^ length xs) (digit_above c parts.0 first) (pow_ten_pos (length xs)))
      | inr later ↦ omega (arith, number_cons c xs, number_pos xs parts.1 later)
    ]

-- one digit more
pub number_push : (xs : List ℕ) (i : ℕ) → i < length xs → number_of (take (i + 1) xs) ≡ number_of (take i xs) * 10 + (get_or xs i 0 - 48)
number_push xs i h =
    let d = get_or xs i 0 in
    let last : number_of (d ∷ []) ≡ (d - 48) * 1 + 0 = number_cons d [] ∙ ap (λ k. (d - 48) * 1 + k) number_none in
    ap number_of (take_more xs i 0 h) ∙ number_append (take i xs) (d ∷ []) ∙ omega (arith, last)

pub pow_ten_more : (k : ℕ) → 10 ^ (k + 1) ≡ 10 ^ k * 10
pow_ten_more k = let one : 10 ^ 1 ≡ 10 = refl in pow-add 10 k 1 ∙ ap (λ p. 10 ^ k * p) one
