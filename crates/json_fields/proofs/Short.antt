-- What numbers of a few digits are worth.
use Rattle.std.proofs.Common.{◌≡◌, ℕ, ◌+◌, ◌-◌, ◌*◌, ◌^◌, ◌<◌, ◌≤◌, ◌==◌, ◌&&◌, ◌||◌, List, [], ◌∷◌, ◌++◌, length, take, length-take, get_or, Bool, true, false, cond, not, nat_le, arith, sym, ◌∙◌, ap, refl, inl, inr, append-nil, ℤ, pos, negsuc, ◌≤ℤ◌, Option, Some, None, Result, Ok, Err}
use Rattle.std.proofs.Math.Facts.{yes_leb}
use Rattle.std.proofs.Math.Nat.{pow-le-pow_right}
use Rattle.std.proofs.lemmas.Nat.{pow-add}
use Rattle.std.proofs.lemmas.Bool.{and_parts, ltb-true, ltb-false}
use Rattle.std.proofs.lemmas.Bool.Decides.{nat_tests}
use Rattle.std.proofs.lemmas.List.{take_all}
use Rattle.std.proofs.lemmas.List.Folds.{list_all-append}
use Rattle.std.proofs.lemmas.List.Sums.{split_at_first, passes_at_first}
use Rattle.std.specs.Prelude.{ltb, IfSome, IsSome, ◌↔◌}
use Rattle.std.specs.List.{list_all, list_any, position_or_len, before_first, after_first}
use Rattle.rtb_num.specs.Amounts.{is_digit, is_point, number_of, digits_of, places_of}
use Rattle.rtb_num.specs.Numbers.{Number, number_in, is_minus, is_exponent_mark, has_minus, without_minus, without_sign, is_below_zero, IsMillionths, IsWhole, IsInteger}
use Rattle.rtb_num.specs.declared.read_amounts.PriceFault.{PriceFault}
use Rattle.rtb_num.proofs.Numbers.{number_none, number_append, number_lt, number_push}
use Rattle.rtb_num.proofs.Points.{none_before, none_after}
use Rattle.json_fields.specs.Amounts.{units_in, is_exactly_units, units_up, in_32_bits, floor_of}
use Rattle.json_fields.proofs.Worth.{fits_32, micros_parts}

-- a digit or the point
abbrev is_plain : ℕ → Bool
is_plain c = is_digit c || is_point c

plain_sign : (c : ℕ) → is_plain c ≡ true → is_minus c ≡ false
plain_sign c h = grind (arith, nat_tests)

plain_mark : (c : ℕ) → is_plain c ≡ true → is_exponent_mark c ≡ false
plain_mark c h = grind (arith, nat_tests)

digit_plain : (c : ℕ) → is_digit c ≡ true → is_plain c ≡ true
digit_plain c h = grind (arith, nat_tests)

point_plain : (c : ℕ) → is_point c ≡ true → is_plain c ≡ true
point_plain c h = grind (arith, nat_tests)

digit_point : (c : ℕ) → is_digit c ≡ true → is_point c ≡ false
digit_point c h = grind (arith, nat_tests)

-- what each byte passes
all_pass : (p q : ℕ → Bool) → ((c : ℕ) → p c ≡ true → q c ≡ true) → (t : List ℕ) → list_all p t ≡ true → list_all q t ≡ true
all_pass p q step [] h = refl
all_pass p q step (c ∷ t) h =
    let parts = and_parts (p c) (list_all p t) h in
    ap (λ b. b && list_all q t) (step c parts.0) ∙ all_pass p q step t parts.1

none_pass : (p q : ℕ → Bool) → ((c : ℕ) → p c ≡ true → q c ≡ false) → (t : List ℕ) → list_all p t ≡ true → list_any q t ≡ false
none_pass p q step [] h = refl
none_pass p q step (c ∷ t) h =
    let parts = and_parts (p c) (list_all p t) h in
    ap (λ b. b || list_any q t) (step c parts.0) ∙ none_pass p q step t parts.1

-- digits before the first point and behind it are plain bytes together
split_plain : (t : List ℕ) → list_all is_digit (before_first is_point t) ≡ true → list_all is_digit (after_first is_point t) ≡ true → list_all is_plain t ≡ true
split_plain t w f = by (ltb (position_or_len is_point t) (length t)) refl
  where
    front : list_all is_plain (before_first is_point t) ≡ true
    front = all_pass is_digit is_plain digit_plain (before_first is_point t) w

    rest : list_all is_plain (after_first is_point t) ≡ true
    rest = all_pass is_digit is_plain digit_plain (after_first is_point t) f

    by : (b : Bool) → ltb (position_or_len is_point t) (length t) ≡ b → list_all is_plain t ≡ true
    by true e =
        let short = ltb-true _ _ e in
        let point : is_plain (get_or t (position_or_len is_point t) 0) ≡ true = point_plain _ (passes_at_first is_point t 0 short) in
        ap (list_all is_plain) (split_at_first is_point t 0 short)
        ∙ list_all-append is_plain (before_first is_point t) (get_or t (position_or_len is_point t) 0 ∷ after_first is_point t)
        ∙ ap (λ b. b && (is_plain (get_or t (position_or_len is_point t) 0) && list_all is_plain (after_first is_point t))) front
        ∙ ap (λ b. b && list_all is_plain (after_first is_point t)) point
        ∙ rest
    by false e =
        let all : before_first is_point t ≡ t = take_all _ t (ltb-false _ _ e) in
        ap (list_all is_plain) (sym all) ∙ front

-- ---- the parts of a text of plain bytes

no_sign : (t : List ℕ) → list_all is_plain t ≡ true → has_minus t ≡ false
no_sign [] h = refl
no_sign (c ∷ t) h = plain_sign c (and_parts (is_plain c) (list_all is_plain t) h).0

unsigned : (t : List ℕ) → list_all is_plain t ≡ true → without_minus t ≡ t
unsigned [] h = refl
unsigned (c ∷ t) h = ap (λ b. cond b t (c ∷ t)) (plain_sign c (and_parts (is_plain c) (list_all is_plain t) h).0)

-- A number of plain bytes counts neither up nor below 0, and down by what stands behind its point.
pub record IsPlainNumber (n : Number) (w f : List ℕ) : Type 0 where
  pub sign : n.minus ≡ false
  pub digits : number_of n.digits ≡ number_of w * 10 ^ length f + number_of f
  pub up : n.up ≡ 0
  pub down : n.down ≡ length f

pub plain_number : (t : List ℕ) → list_all is_digit (before_first is_point t) ≡ true → list_all is_digit (after_first is_point t) ≡ true → IsPlainNumber (number_in t) (before_first is_point t) (after_first is_point t)
unfolding number_in
plain_number t w f =
    let plain = split_plain t w f in
    let bare = unsigned t plain in
    let no_mark : list_any is_exponent_mark (without_minus t) ≡ false = ap (list_any is_exponent_mark) bare ∙ none_pass is_plain is_exponent_mark plain_mark t plain in
    let decimal : before_first is_exponent_mark (without_minus t) ≡ t = none_before is_exponent_mark (without_minus t) no_mark ∙ bare in
    let power : after_first is_exponent_mark (without_minus t) ≡ [] = none_after is_exponent_mark (without_minus t) no_mark in
    record {
      sign = no_sign t plain;
      digits = ap (λ d. number_of (digits_of d)) decimal ∙ number_append (before_first is_point t) (after_first is_point t);
      up = ap (λ p. cond (has_minus p) 0 (number_of (without_sign p))) power ∙ number_none;
      down = ap (λ d. places_of d + cond (has_minus (after_first is_exponent_mark (without_minus t))) (number_of (without_sign (after_first is_exponent_mark (without_minus t)))) 0) decimal
          ∙ ap (λ p. places_of t + cond (has_minus p) (number_of (without_sign p)) 0) power
          ∙ omega arith;
    }

-- ---- digits one after the other

pub digit_below : (c : ℕ) → is_digit c ≡ true → c - 48 < 10
digit_below c h = grind (arith, nat_tests)

short_below : (xs : List ℕ) (j : ℕ) → list_all is_digit xs ≡ true → length xs ≤ j → number_of xs < 10 ^ j
short_below xs j h few = omega (arith, number_lt xs h, pow-le-pow_right ten few)
  where
    ten : 0 < 10
    ten = omega arith

pub at_most_nine : (t : List ℕ) (k : ℕ) → list_all is_digit (take k t) ≡ true → k ≤ 9 → number_of (take k t) < 1000000000
at_most_nine t k h few = short_below (take k t) 9 h (omega (arith, length-take k t))

pub at_most_eight : (t : List ℕ) (k : ℕ) → list_all is_digit (take k t) ≡ true → k ≤ 8 → number_of (take k t) < 100000000
at_most_eight t k h few = short_below (take k t) 8 h (omega (arith, length-take k t))

-- ---- whole numbers

within_32 : (n : ℕ) → n ≤ 999999999 → pos n ≤ℤ pos 2147483647
within_32 n h = record { le = yes_leb h2 }
  where
    h2 : n ≤ 2147483647
    h2 = omega arith

above_32 : (n : ℕ) → negsuc 2147483647 ≤ℤ pos n
above_32 n = record { le = tt }

pub whole_is : (t : List ℕ) (n : ℕ) → list_all is_digit t ≡ true → n ≡ number_of t → n ≤ 999999999 → in_32_bits t ≡ Some (pos n)
whole_is t n h e small =
    let no_point = none_pass is_digit is_point digit_point t h in
    let front = none_before is_point t no_point in
    let rest = none_after is_point t no_point in
    let p = plain_number t (ap (list_all is_digit) front ∙ h) (ap (list_all is_digit) rest) in
    let below : is_below_zero (number_in t) ≡ false = ap (λ b. b && not (number_of (number_in t).digits == 0)) p.sign in
    let down : (number_in t).down ≡ 0 = p.down ∙ ap length rest in
    let digits : number_of (number_in t).digits ≡ n =
    p.digits ∙ ap (λ f. number_of (before_first is_point t) * 10 ^ length f + number_of f) rest ∙ ap (λ w. number_of w * 10 ^ 0 + number_of []) front
    ∙ plus_none _ _ number_none ∙ sym e in
    let worth : IsWhole (number_in t) n = ap (λ k. n * 10 ^ k) down ∙ ap (λ m. m * 10 ^ 0) (sym digits) ∙ ap (λ k. number_of (number_in t).digits * 10 ^ k) (sym p.up) in
    sym (fits_32 t (pos n) (below, worth) (above_32 n) (within_32 n small))
  where
    plus_none : (a b : ℕ) → b ≡ 0 → a * 10 ^ 0 + b ≡ a
    plus_none a b e = rw e (omega arith)

-- ---- amounts

power_six : (k : ℕ) → k ≤ 6 → 10 ^ 6 ≡ 10 ^ (6 - k) * 10 ^ k
power_six k h = let e : 6 ≡ 6 - k + k = omega arith in ap (λ i. 10 ^ i) e ∙ pow-add 10 (6 - k) k

spread : (w f a p q : ℕ) → q ≡ a * p → (w * q + f * a) * p ≡ (w * p + f) * q
spread w f a p q e = rw e (omega arith)

pub floor_short : (t : List ℕ) (w f m : ℕ) → list_all is_digit (before_first is_point t) ≡ true → list_all is_digit (after_first is_point t) ≡ true
    → w ≡ number_of (before_first is_point t) → f ≡ number_of (after_first is_point t) → length (after_first is_point t) ≤ 6
    → m ≡ w * 10 ^ 6 + f * 10 ^ (6 - length (after_first is_point t)) → m ≤ 10 ^ 12 → floor_of t ≡ Ok m
unfolding floor_of
floor_short t w f m whole fraction is_w is_f few is_m small =
    let p = plain_number t whole fraction in
    let k = length (after_first is_point t) in
    let digits : number_of (number_in t).digits ≡ w * 10 ^ k + f = p.digits ∙ ap (λ a. a * 10 ^ k + number_of (after_first is_point t)) (sym is_w) ∙ ap (λ b. w * 10 ^ k + b) (sym is_f) in
    let worth : IsMillionths (number_in t) m =
    ap (λ i. m * 10 ^ i) p.down ∙ ap (λ a. a * 10 ^ k) is_m ∙ spread w f (10 ^ (6 - k)) (10 ^ k) (10 ^ 6) (power_six k few)
    ∙ ap (λ d. d * 10 ^ 6) (sym digits) ∙ ap (λ i. number_of (number_in t).digits * 10 ^ (i + 6)) (sym p.up) in
    let parts = micros_parts (number_in t) m worth in
    let units : units_up 6 (number_in t) ≡ m = ap (λ b. units_in 6 (number_in t) + cond b 0 1) parts.1 ∙ plus_zero _ ∙ parts.0 in
    let below : is_below_zero (number_in t) ≡ false = ap (λ b. b && not (number_of (number_in t).digits == 0)) p.sign in
    ap (λ b. cond b (Err PriceFault.Negative) (cond (nat_le (units_up 6 (number_in t)) (10 ^ 12)) (Ok (units_up 6 (number_in t))) (Err PriceFault.TooLarge))) below
    ∙ ap (λ u. cond (nat_le u (10 ^ 12)) (Ok u) (Err PriceFault.TooLarge)) units
    ∙ ap (λ b. cond b (Ok m) (Err PriceFault.TooLarge)) (fits m small)
  where
    plus_zero : (a : ℕ) → a + 0 ≡ a
    plus_zero a = omega arith

    fits : (m : ℕ) → m ≤ 10 ^ 12 → nat_le m (10 ^ 12) ≡ true
    fits m h = grind (arith, nat_tests)

-- the same of the two parts as they were read, and of what was made of the sum
pub floor_of_parts : (t whole fraction : List ℕ) (w f m : ℕ) (r : Option ℕ) → whole ≡ before_first is_point t → fraction ≡ after_first is_point t
    → list_all is_digit whole ≡ true → list_all is_digit fraction ≡ true → w ≡ number_of whole → f ≡ number_of fraction
    → length fraction ≤ 6 → m ≡ w * 10 ^ 6 + f * 10 ^ (6 - length fraction) → IsSome r ↔ (m ≤ 10 ^ 12) → IfSome r (λ k. k ≡ m) → IfSome r (λ k. floor_of t ≡ Ok k)
floor_of_parts t whole fraction w f m None a b dw df ew ef few em low is = tt
floor_of_parts t whole fraction w f m (Some k) a b dw df ew ef few em low is =
    floor_short t w f k (ap (list_all is_digit) (sym a) ∙ dw) (ap (list_all is_digit) (sym b) ∙ df) (ew ∙ ap number_of a) (ef ∙ ap number_of b)
    (omega (arith, ap length b, few)) (is ∙ em ∙ ap (λ n. w * 10 ^ 6 + f * 10 ^ (6 - length n)) b) (omega (arith, is, low.0 refl))

pub whole_of_digits : (t : List ℕ) (n : ℕ) (r : Option ℤ) → list_all is_digit t ≡ true → n ≡ number_of t → n ≤ 999999999 → r ≡ Some (pos n) → IfSome r (λ z. in_32_bits t ≡ Some z)
whole_of_digits t n None digits value bound is = tt
whole_of_digits t n (Some z) digits value bound is = whole_is t n digits value bound ∙ sym is
