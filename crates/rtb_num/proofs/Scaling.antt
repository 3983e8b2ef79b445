-- Digits before and behind a point that a power of ten has moved.
use Rattle.std.proofs.Common.{◌≡◌, ℕ, zero, suc, ◌+◌, ◌-◌, ◌*◌, ◌/◌, ◌%◌, ◌^◌, ◌<◌, ◌≤◌, ◌==◌, List, length, take, drop, min, true, arith, sym, ◌∙◌, ap, inl, inr, take-append-drop, length-drop}
use Rattle.std.proofs.lemmas.Nat.{pow-add, div-mul-add, mod-mul-add, mul-lt}
use Rattle.std.proofs.lemmas.Bool.{cases_lt, cases_Bool, and_parts, ne_eqb}
use Rattle.std.proofs.lemmas.List.{take_all, drop_all}
use Rattle.std.proofs.lemmas.List.Folds.{list_all-append}
use Rattle.std.proofs.Math.Nat.{pow-le-pow_right, mul-lt-mul_of_pos_right, le-mul_of_pos_right, zero-mul}
use Rattle.std.specs.List.{list_all}
use Rattle.rtb_num.specs.Amounts.{is_digit, number_of}
use Rattle.rtb_num.proofs.Numbers.{number_none, number_append, number_lt, number_pos, number_zeros, pow_ten_pos}

-- ---- numbers that stop at a greatest one

-- one digit more, in two steps that stop at m
pub saturated_step : (m n a d p q : ℕ) → n ≡ min a m → p ≡ min (n * 10) m → q ≡ min (p + d) m → q ≡ min (a * 10 + d) m
saturated_step m n a d p q e f g = omega arith

-- one digit more behind a number that stops at m
pub capped_step : (m n a d q : ℕ) → 0 < m → n ≡ min a m → q ≡ min (n * 10 + d) m → q ≡ min (a * 10 + d) m
capped_step m n a d q h e f = omega arith

-- what was read so far, and the power of ten of its length, with one digit more
pub digit_behind : (s p q a b d : ℕ) → q ≡ p * 10 → b ≡ a * 10 + d → s * q + b ≡ (s * p + a) * 10 + d
digit_behind s p q a b d e f = rw (e, f) (omega arith)

pub capped_digits : (m a p b n q : ℕ) → 0 < p → n ≡ min a m → q ≡ min (n * p + b) m → q ≡ min (a * p + b) m
capped_digits m a p b n q h e f =
    elim (cases_lt a m) [
      | inl less ↦ (let same : n ≡ a = omega arith in f ∙ ap (λ k. min (k * p + b) m) same)
      | inr more ↦ omega (arith, le-mul_of_pos_right n h, le-mul_of_pos_right a h)
    ]

pub capped_zeros : (m a p n q : ℕ) → 0 < p → n ≡ min a m → q ≡ min (n * p) m → q ≡ min (a * p) m
capped_zeros m a p n q h e f =
    elim (cases_lt a m) [
      | inl less ↦ (let same : n ≡ a = omega arith in f ∙ ap (λ k. min (k * p) m) same)
      | inr more ↦ omega (arith, le-mul_of_pos_right n h, le-mul_of_pos_right a h)
    ]

-- more zeros than make any number too great
pub many_zeros : (m k z a : ℕ) → m ≤ 10 ^ k → k ≤ z → min (a * 10 ^ z) m ≡ min (a * 10 ^ k) m
many_zeros m k z zero h g = ap (λ n. min n m) (zero-mul (10 ^ z) ∙ sym (zero-mul (10 ^ k)))
many_zeros m k z (suc a) h g =
    let more : 10 ^ k ≤ 10 ^ z = pow-le-pow_right (omega arith) g in
    omega arith

-- ---- the point moved

pub record Moved (xs : List ℕ) (s d before : ℕ) : Type 0 where
  pub units : number_of xs * 10 ^ s / 10 ^ d ≡ number_of (take before xs) * 10 ^ (s - d)
  pub rest : (number_of xs * 10 ^ s % 10 ^ d == 0) ≡ list_all (λ c. c == 48) (drop before xs)

-- whether something is left
left : (b : List ℕ) (s : ℕ) → list_all is_digit b ≡ true → (number_of b * 10 ^ s == 0) ≡ list_all (λ c. c == 48) b
left b s digits =
    elim (cases_Bool (list_all (λ c. c == 48) b)) [
      | inl all ↦ (let none : number_of b * 10 ^ s ≡ 0 = ap (λ k. k * 10 ^ s) (number_zeros b all) ∙ zero-mul (10 ^ s) in ap (λ k. k == 0) none ∙ sym all)
      | inr some ↦ ne_eqb (number_of b * 10 ^ s) 0 (λ e. omega (arith, e, mul-lt 0 0 (number_of b) (10 ^ s) (number_pos b digits some) (pow_ten_pos s))) ∙ sym some
    ]

-- from the two parts
from_parts : (xs : List ℕ) (s d before : ℕ) → list_all is_digit (drop before xs) ≡ true
    → number_of xs * 10 ^ s ≡ (number_of (take before xs) * 10 ^ (s - d)) * 10 ^ d + number_of (drop before xs) * 10 ^ s
    → number_of (drop before xs) * 10 ^ s < 10 ^ d → Moved xs s d before
from_parts xs s d before digits e h = record {
  units = ap (λ n. n / 10 ^ d) e ∙ div-mul-add (number_of (take before xs) * 10 ^ (s - d)) (10 ^ d) (number_of (drop before xs) * 10 ^ s) h;
  rest = ap (λ n. n == 0) (ap (λ n. n % 10 ^ d) e ∙ mod-mul-add (number_of (take before xs) * 10 ^ (s - d)) (10 ^ d) (number_of (drop before xs) * 10 ^ s) h) ∙ left (drop before xs) s digits;
}

last_digits : (xs : List ℕ) (k : ℕ) → list_all is_digit xs ≡ true → list_all is_digit (drop k xs) ≡ true
last_digits xs k digits = (and_parts (list_all is_digit (take k xs)) (list_all is_digit (drop k xs)) (sym (list_all-append is_digit (take k xs) (drop k xs)) ∙ ap (list_all is_digit) (take-append-drop k xs) ∙ digits)).1

first_digits : (xs : List ℕ) (k : ℕ) → list_all is_digit xs ≡ true → list_all is_digit (take k xs) ≡ true
first_digits xs k digits = (and_parts (list_all is_digit (take k xs)) (list_all is_digit (drop k xs)) (sym (list_all-append is_digit (take k xs) (drop k xs)) ∙ ap (list_all is_digit) (take-append-drop k xs) ∙ digits)).0

-- no digit stands behind the point
whole_moved : (xs : List ℕ) (s d before : ℕ) → list_all is_digit xs ≡ true → d ≤ s → before ≡ length xs → Moved xs s d before
whole_moved xs s d before digits h at =
    let all : take before xs ≡ xs = take_all before xs (omega arith) in
    let none : number_of (drop before xs) * 10 ^ s ≡ 0 = ap (λ t. number_of t * 10 ^ s) (drop_all before xs (omega arith)) ∙ ap (λ k. k * 10 ^ s) number_none ∙ zero-mul (10 ^ s) in
    let p : 10 ^ s ≡ 10 ^ (s - d) * 10 ^ d = ap (λ k. 10 ^ k) (again s d h) ∙ pow-add 10 (s - d) d in
    from_parts xs s d before (last_digits xs before digits)
    (all_of (number_of xs) (10 ^ s) (10 ^ (s - d)) (10 ^ d) (number_of (take before xs)) _ p (ap number_of all) none)
    (omega (arith, none, pow_ten_pos d))
  where
    again : (s d : ℕ) → d ≤ s → s ≡ (s - d) + d
    again s d h = omega arith

    all_of : (n p q r m z : ℕ) → p ≡ q * r → m ≡ n → z ≡ 0 → n * p ≡ (m * q) * r + z
    all_of n p q r m z e f g = rw (e, f, g) (omega arith)

-- some do, or all of them and zeros before them
parted_moved : (xs : List ℕ) (s d before : ℕ) → list_all is_digit xs ≡ true → s < d → before ≡ length xs - (d - s) → Moved xs s d before
parted_moved xs s d before digits h at =
    let rest = last_digits xs before digits in
    let p : 10 ^ d ≡ 10 ^ (d - s) * 10 ^ s = ap (λ k. 10 ^ k) (again s d h) ∙ pow-add 10 (d - s) s in
    let n : number_of xs ≡ number_of (take before xs) * 10 ^ length (drop before xs) + number_of (drop before xs) = ap number_of (sym (take-append-drop before xs)) ∙ number_append (take before xs) (drop before xs) in
    elim (cases_lt (length xs) (d - s)) [
      | inl all ↦ from_parts xs s d before rest
          (eq_all _ _ _ _ (10 ^ (s - d)) (10 ^ d) (10 ^ s) n (ap (λ k. number_of (take k xs)) (first before (length xs) (d - s) all at) ∙ number_none))
          (below _ _ (10 ^ (d - s)) (10 ^ d) (10 ^ s) (number_lt (drop before xs) rest) (pow-le-pow_right (omega arith) (omega (arith, length-drop before xs))) p (pow_ten_pos s))
      | inr some ↦ (let same : 10 ^ length (drop before xs) ≡ 10 ^ (d - s) = ap (λ k. 10 ^ k) (length-drop before xs ∙ kept before (length xs) (d - s) some at) in
          from_parts xs s d before rest
          (eq_some _ _ _ _ (10 ^ (s - d)) (10 ^ d) (10 ^ s) n (p ∙ ap (λ k. k * 10 ^ s) (sym same)) (ap (λ k. 10 ^ k) (none s d h)))
          (below _ _ (10 ^ (d - s)) (10 ^ d) (10 ^ s) (number_lt (drop before xs) rest) (omega (arith, same)) p (pow_ten_pos s)))
    ]
  where
    again : (s d : ℕ) → s < d → d ≡ (d - s) + s
    again s d h = omega arith

    none : (s d : ℕ) → s < d → s - d ≡ 0
    none s d h = omega arith

    first : (b n k : ℕ) → n < k → b ≡ n - k → b ≡ 0
    first b n k h e = omega arith

    kept : (b n k : ℕ) → k ≤ n → b ≡ n - k → n - b ≡ k
    kept b n k h e = omega arith

    eq_all : (n a b p t q u : ℕ) → n ≡ a * p + b → a ≡ 0 → n * u ≡ (a * t) * q + b * u
    eq_all n a b p t q u e f = rw (e, f) (omega arith)

    eq_some : (n a b p t q u : ℕ) → n ≡ a * p + b → q ≡ p * u → t ≡ 1 → n * u ≡ (a * t) * q + b * u
    eq_some n a b p t q u e f g = rw (e, f, g) (omega arith)

    below : (b p w q u : ℕ) → b < p → p ≤ w → q ≡ w * u → 0 < u → b * u < q
    below b p w q u h g e k = rw e (mul-lt-mul_of_pos_right (omega arith) k)

pub moved : (xs : List ℕ) (s d before : ℕ) → list_all is_digit xs ≡ true → before ≡ length xs - (d - s) → Moved xs s d before
moved xs s d before digits at =
    elim (cases_lt s d) [
      | inl less ↦ parted_moved xs s d before digits less at
      | inr more ↦ whole_moved xs s d before digits more (omega arith)
    ]
