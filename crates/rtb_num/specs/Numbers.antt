-- The numbers of RFC 8259, section 6, and what they are worth.
use Rattle.std.specs.Prelude.{ℕ, ◌+◌, ◌*◌, ◌^◌, ◌≤◌, ◌==◌, ◌&&◌, ◌||◌, ◌≡◌, not, List, [], ◌∷◌, length, Bool, true, false, if◌then◌else◌, ℤ, pos, negsuc, neg_ℤ}
use Rattle.std.specs.List.{list_all, list_any, before_first, after_first}
use Rattle.rtb_num.specs.Amounts.{is_digit, is_decimal, number_of, digits_of, places_of}

-- ---- the form: [ minus ] int [ frac ] [ exp ]

abbrev pub is_minus : ℕ → Bool
is_minus c = c == 45

-- `e` or `E`
abbrev pub is_exponent_mark : ℕ → Bool
is_exponent_mark c = c == 101 || c == 69

abbrev pub has_minus : List ℕ → Bool
has_minus [] = false
has_minus (c ∷ s) = is_minus c

abbrev pub without_minus : List ℕ → List ℕ
without_minus [] = []
without_minus (c ∷ s) = if is_minus c then s else c ∷ s

abbrev pub without_sign : List ℕ → List ℕ
without_sign [] = []
without_sign (c ∷ s) = if c == 43 || is_minus c then s else c ∷ s

-- int [ frac ]
abbrev pub decimal_part : List ℕ → List ℕ
decimal_part text = before_first is_exponent_mark (without_minus text)

-- what stands behind the mark of the exponent: its sign, if it has one, and its digits
abbrev pub exponent_part : List ℕ → List ℕ
exponent_part text = after_first is_exponent_mark (without_minus text)

-- at least one digit behind the sign
abbrev pub is_exponent : List ℕ → Bool
is_exponent part = list_all is_digit (without_sign part) && not (length (without_sign part) == 0)

abbrev pub is_number : List ℕ → Bool
is_number text = is_decimal (decimal_part text)
    && (not (list_any is_exponent_mark (without_minus text)) || is_exponent (exponent_part text))

-- ---- the value

-- The value is what the digits spell, times ten to the power of `up`, divided by ten to the power of
-- `down`, and below 0 where it has a minus and is not 0.
pub record Number : Type 0 where
  pub minus : Bool
  pub digits : List ℕ
  pub up : ℕ
  pub down : ℕ

-- The exponent counts up, or down where it has a minus.
abbrev pub up_by : List ℕ → ℕ
up_by part = if has_minus part then 0 else number_of (without_sign part)

abbrev pub down_by : List ℕ → ℕ
down_by part = if has_minus part then number_of (without_sign part) else 0

-- the parts of a number's text: each digit behind the point counts down once
unfoldable pub number_in : List ℕ → Number
number_in text = record {
  minus = has_minus text;
  digits = digits_of (decimal_part text);
  up = up_by (exponent_part text);
  down = places_of (decimal_part text) + down_by (exponent_part text);
}

-- below 0, so that -0 is not
abbrev pub is_below_zero : Number → Bool
is_below_zero n = n.minus && not (number_of n.digits == 0)

-- the whole number m, or -m
abbrev pub with_sign : Bool → ℕ → ℤ
with_sign minus m = if minus then neg_ℤ (pos m) else pos m

-- Without its sign, the number is at most m millionths.
abbrev pub IsWithinMillionths : Number → ℕ → Type 0
IsWithinMillionths n m = number_of n.digits * 10 ^ (n.up + 6) ≤ m * 10 ^ n.down

-- Without its sign, the number is exactly m millionths.
abbrev pub IsMillionths : Number → ℕ → Type 0
IsMillionths n m = m * 10 ^ n.down ≡ number_of n.digits * 10 ^ (n.up + 6)

-- Without its sign, the number is m.
abbrev pub IsWhole : Number → ℕ → Type 0
IsWhole n m = m * 10 ^ n.down ≡ number_of n.digits * 10 ^ n.up

-- With its sign, the number is z.
abbrev pub IsInteger : Number → ℤ → Type 0
IsInteger n (pos m) = (is_below_zero n ≡ false) × IsWhole n m
IsInteger n (negsuc m) = (is_below_zero n ≡ true) × IsWhole n (m + 1)
