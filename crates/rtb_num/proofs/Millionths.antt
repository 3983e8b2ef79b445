-- Numbers in whole units and something finer, over plain numbers.
use Rattle.std.proofs.Common.{◌≡◌, ℕ, zero, suc, ◌+◌, ◌*◌, ◌/◌, ◌%◌, ◌^◌, ◌<◌, ◌≤◌, ◌==◌, ◌↔◌, Bool, true, false, not, arith, sym, ◌∙◌, ap, refl, inl, inr, ◌⊎◌, ℤ, pos, negsuc, ◌≤ℤ◌, subst}
use Rattle.std.specs.Prelude.{IsTrue}
use Rattle.std.proofs.lemmas.Int.{ints}
use Rattle.std.specs.Int.{from_bool}
use Rattle.std.proofs.lemmas.Bool.{cases_lt, and_parts}
use Rattle.std.proofs.lemmas.Bool.Decides.{nat_tests}
use Rattle.std.proofs.lemmas.Nat.{div-add-mod', mod_below, same_from_place}
use Rattle.std.proofs.Math.Nat.{mul-le-mul_right, mul-lt-mul_of_pos_right, mul-pos, zero-mul}
use Rattle.rtb_num.specs.Amounts.{number_of}
use Rattle.rtb_num.specs.Numbers.{Number, IsWithinMillionths, IsMillionths, IsWhole, IsInteger, is_below_zero, with_sign}
use Rattle.rtb_num.specs.Parts.{units_of, is_finer}
use Rattle.rtb_num.proofs.Numbers.{pow_ten_pos}

-- one more where something finer is left
abbrev pub rounded : ℕ → Bool → ℕ
rounded q z = q + from_bool z

more : (r : ℕ) → true ≡ not (r == 0) → 0 < r
more r e = grind (arith, nat_tests)

none : (r : ℕ) → false ≡ not (r == 0) → r ≡ 0
none r e = grind (arith, nat_tests)

-- n is q units of p, and r of the next
within_parts : (n p q r k : ℕ) (z : Bool) → n ≡ q * p + r → r < p → z ≡ not (r == 0) → (n ≤ k * p) ↔ (rounded q z ≤ k)
within_parts n p q r k true e h f =
    let some = more r f in (
      λ g. elim (cases_lt q k) [ inl less ↦ omega arith | inr no_less ↦ absurd (omega (arith, mul-le-mul_right {m = k} {n = q} p no_less)) ],
      λ g. omega (arith, mul-le-mul_right {m = q + 1} {n = k} p g),
    )
within_parts n p q r k false e h f =
    let zero_is = none r f in (
      λ g. elim (cases_lt k q) [ inl less ↦ absurd (omega (arith, mul-lt-mul_of_pos_right {m = k} {n = q} {k = p} less (omega arith))) | inr no_less ↦ omega arith ],
      λ g. (let le : q ≤ k = omega arith in omega (arith, mul-le-mul_right {m = q} {n = k} p le)),
    )

exact_parts : (n p q r m : ℕ) (z : Bool) → n ≡ q * p + r → r < p → z ≡ not (r == 0) → (m * p ≡ n) ↔ ((m ≡ q) × (z ≡ false))
exact_parts n p q r m true e h f =
    let some = more r f in
    (λ g. absurd (omega (arith, (same_from_place m 0 q r p (omega arith) h (omega arith)).1)), λ g. cc)
exact_parts n p q r m false e h f =
    let zero_is = none r f in
    (λ g. ((same_from_place m 0 q r p (omega arith) h (omega arith)).0, refl), λ g. ap (λ k. k * p) g.0 ∙ omega arith)

pub within_is : (n p k : ℕ) → 0 < p → (n ≤ k * p) ↔ (rounded (n / p) (not (n % p == 0)) ≤ k)
within_is n p k h = within_parts n p (n / p) (n % p) k _ (sym (div-add-mod' n p)) (mod_below n p h) refl

pub exactly_is : (n p m : ℕ) → 0 < p → (m * p ≡ n) ↔ ((m ≡ n / p) × (not (n % p == 0) ≡ false))
exactly_is n p m h = exact_parts n p (n / p) (n % p) m _ (sym (div-add-mod' n p)) (mod_below n p h) refl

clash : true ≡ false → ⊥
clash e = cc

-- ---- what was read of a number in units: u of them, and z where something finer is left

pub floor_enough : (n : Number) (u m : ℕ) (z : Bool) → u ≡ units_of n 6 → z ≡ is_finer n 6 → m ≡ u + from_bool z → m ≤ 10 ^ 12 → IsWithinMillionths n m
unfolding units_of is_finer
floor_enough n u m z e f g h =
    let rest = ap from_bool f in
    (within_is (number_of n.digits * 10 ^ (n.up + 6)) (10 ^ n.down) m (pow_ten_pos n.down)).1 (omega (arith, e, g, rest))

pub floor_least : (n : Number) (u m : ℕ) (z : Bool) → u ≡ units_of n 6 → z ≡ is_finer n 6 → m ≡ u + from_bool z → (k : ℕ) → IsWithinMillionths n k → m ≤ k
unfolding units_of is_finer
floor_least n u m z e f g k w =
    let rest = ap from_bool f in
    let least = (within_is (number_of n.digits * 10 ^ (n.up + 6)) (10 ^ n.down) k (pow_ten_pos n.down)).0 w in
    omega (arith, e, g, rest, least)

pub floor_large : (n : Number) (u m : ℕ) (z : Bool) → u ≡ units_of n 6 → z ≡ is_finer n 6 → m ≡ u + from_bool z → (10 ^ 12 < m) ↔ (IsWithinMillionths n (10 ^ 12) → ⊥)
unfolding units_of is_finer
floor_large n u m z e f g =
    let rest = ap from_bool f in (
      λ big w. omega (arith, big, floor_least n u m z e f g (10 ^ 12) w),
      λ none. elim (cases_lt (10 ^ 12) m) [
        | inl big ↦ big
        | inr small ↦ absurd (none ((within_is (number_of n.digits * 10 ^ (n.up + 6)) (10 ^ n.down) (10 ^ 12) (pow_ten_pos n.down)).1 (omega (arith, e, g, rest, small))))
      ],
    )

pub exact_value : (n : Number) (u m : ℕ) (z : Bool) → u ≡ units_of n 6 → z ≡ is_finer n 6 → (m ≡ u) × (m ≤ 10 ^ 12) × (z ≡ false) → IsMillionths n m
unfolding units_of is_finer
exact_value n u m z e f (same, small, whole) =
    (exactly_is (number_of n.digits * 10 ^ (n.up + 6)) (10 ^ n.down) m (pow_ten_pos n.down)).1 (omega (arith, same, e, small), sym f ∙ whole)

-- too large: more than the greatest, or the greatest and something finer
large_is : (u : ℕ) (z : Bool) → (10 ^ 12 < u + from_bool z) ↔ ((10 ^ 12 < u) ⊎ ((u ≡ 10 ^ 12) × (z ≡ true)))
large_is u true = (λ h. elim (cases_lt (10 ^ 12) u) [ inl more ↦ inl more | inr less ↦ inr (omega arith, refl) ], λ h. elim h [ inl more ↦ omega arith | inr (same, some) ↦ omega arith ])
large_is u false = (λ h. inl (omega arith), λ h. elim h [ inl more ↦ omega arith | inr (same, some) ↦ cc ])

pub exact_large : (n : Number) (u : ℕ) (z : Bool) → u ≡ units_of n 6 → z ≡ is_finer n 6 → ((10 ^ 12 < u) ⊎ ((u ≡ 10 ^ 12) × (z ≡ true))) ↔ (IsWithinMillionths n (10 ^ 12) → ⊥)
exact_large n u z e f =
    let large = floor_large n u (u + from_bool z) z e f refl in
    let is = large_is u z in
    (λ h. large.0 (is.1 h), λ h. is.0 (large.1 h))

pub exact_fine : (n : Number) (u : ℕ) (z : Bool) → u ≡ units_of n 6 → z ≡ is_finer n 6 → ((u < 10 ^ 12) × (z ≡ true)) ↔ (IsWithinMillionths n (10 ^ 12) × ((m : ℕ) → IsMillionths n m → ⊥))
unfolding units_of is_finer
exact_fine n u true e f =
    let within = within_is (number_of n.digits * 10 ^ (n.up + 6)) (10 ^ n.down) (10 ^ 12) (pow_ten_pos n.down) in
    let rest = ap from_bool f in (
      λ (less, some). (within.1 (omega (arith, e, less, rest)), λ m w. clash (f ∙ ((exactly_is (number_of n.digits * 10 ^ (n.up + 6)) (10 ^ n.down) m (pow_ten_pos n.down)).0 w).1)),
      λ (w, never). (omega (arith, e, within.0 w, rest), refl),
    )
exact_fine n u false e f =
    let q = number_of n.digits * 10 ^ (n.up + 6) / 10 ^ n.down in (
      λ (less, some). absurd (clash (sym some)),
      λ (w, never). absurd (never q ((exactly_is (number_of n.digits * 10 ^ (n.up + 6)) (10 ^ n.down) q (pow_ten_pos n.down)).1 (refl, sym f))),
    )

-- ---- whole numbers

-- a number of whole units is the whole part, and nothing finer is left
whole_exactly : (n : Number) (m : ℕ) → IsWhole n m ↔ ((m ≡ number_of n.digits * 10 ^ (n.up + 0) / 10 ^ n.down) × (is_finer n 0 ≡ false))
unfolding is_finer
whole_exactly n m =
    let is = exactly_is (number_of n.digits * 10 ^ (n.up + 0)) (10 ^ n.down) m (pow_ten_pos n.down) in
    let plain : number_of n.digits * 10 ^ (n.up + 0) ≡ number_of n.digits * 10 ^ n.up = ap (λ k. number_of n.digits * 10 ^ k) (omega arith) in
    (λ w. is.0 (w ∙ sym plain), λ h. is.1 h ∙ plain)

pub whole_is : (n : Number) (z : Bool) → z ≡ is_finer n 0 → IsTrue (not z) ↔ ((m : ℕ) × IsWhole n m)
whole_is n true f = (λ h. absurd (clash (sym h)), λ (m, w). absurd (clash (f ∙ ((whole_exactly n m).0 w).1)))
whole_is n false f = (λ h. (number_of n.digits * 10 ^ (n.up + 0) / 10 ^ n.down, (whole_exactly n _).1 (refl, sym f)), λ h. refl)

pub no_integer : (n : Number) (z : Bool) → z ≡ is_finer n 0 → z ≡ true → (k : ℤ) → IsInteger n k → ⊥
no_integer n z f some (pos m) (sign, w) = clash (sym some ∙ f ∙ ((whole_exactly n m).0 w).1)
no_integer n z f some (negsuc m) (sign, w) = clash (sym some ∙ f ∙ ((whole_exactly n (m + 1)).0 w).1)

-- what is below 0 is not 0
below_pos : (n : Number) → is_below_zero n ≡ true → IsWhole n 0 → ⊥
below_pos n b w =
    let some = positive (number_of n.digits) (and_parts n.minus (not (number_of n.digits == 0)) b).1 in
    omega (arith, mul-pos some (pow_ten_pos n.up), sym w ∙ zero-mul (10 ^ n.down))
  where
    positive : (k : ℕ) → not (k == 0) ≡ true → 0 < k
    positive k e = grind (arith, nat_tests)

pub with_sign_is : (n : Number) (u : ℕ) (b : Bool) → IsWhole n u → b ≡ is_below_zero n → IsInteger n (with_sign b u)
with_sign_is n u false w e = (sym e, w)
with_sign_is n zero true w e = absurd (below_pos n (sym e) w)
with_sign_is n (suc m) true w e = let next : m + 1 ≡ suc m = omega arith in (sym e, ap (λ k. k * 10 ^ n.down) next ∙ w)

pub integer_is : (n : Number) (u : ℕ) (b z : Bool) (k : ℤ) → u ≡ units_of n 0 → z ≡ is_finer n 0 → z ≡ false → b ≡ is_below_zero n → (k ≡ with_sign b u) × (u ≤ 2147483648) → IsInteger n k
unfolding units_of
integer_is n u b z k e f none sign (is, few) =
    let w : IsWhole n u = (whole_exactly n u).1 (omega (arith, e, few), sym f ∙ none) in
    subst (IsInteger n) (sym is) (with_sign_is n u b w sign)

pub out_of_range : (n : Number) (u : ℕ) (b : Bool) → u ≡ units_of n 0 → b ≡ is_below_zero n → (b ≡ false → 2147483647 < u) → (b ≡ true → 2147483648 < u)
    → (k : ℤ) → negsuc 2147483647 ≤ℤ k → k ≤ℤ pos 2147483647 → IsInteger n k → ⊥
unfolding units_of
out_of_range n u b e sign above below (pos m) low high (plus, w) =
    let more = above (sign ∙ plus) in
    let same = ((whole_exactly n m).0 w).0 in
    omega (arith, ints, e, more, same, high)
out_of_range n u b e sign above below (negsuc m) low high (minus, w) =
    let more = below (sign ∙ minus) in
    let same = ((whole_exactly n (m + 1)).0 w).0 in
    omega (arith, ints, e, more, same, low)
