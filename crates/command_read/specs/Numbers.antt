-- Numbers in paths.
use Rattle.std.specs.Prelude.{ℕ, ◌^◌, ◌==◌, ◌&&◌, ◌||◌, not, nat_le, nat_lt, if◌then◌else◌, List, [], ◌∷◌, Bool, false, Option, Some, None}
use Rattle.std.specs.List.{list_all}
use Rattle.std.specs.Str.{bytes_eq}
use Rattle.rtb_num.specs.Amounts.{is_digit, number_of}

-- digits, of which the first is no zero
abbrev pub is_positive_decimal : List ℕ → Bool
is_positive_decimal [] = false
is_positive_decimal (c ∷ s) = not (c == 48) && list_all is_digit (c ∷ s)

-- digits without a needless zero: 0 alone, or of which the first is no zero
abbrev pub is_decimal : List ℕ → Bool
is_decimal text = bytes_eq text (48 ∷ []) || is_positive_decimal text

-- the number from 0 to the most that the text is in decimal, without a needless zero
abbrev pub number_up_to : ℕ → List ℕ → Option ℕ
number_up_to most text = if is_decimal text && nat_le (number_of text) most then Some (number_of text) else None

-- the number from 1 to 2^64 - 1 that the text is in decimal, without a zero in front
abbrev pub number_in : List ℕ → Option ℕ
number_in text = if is_positive_decimal text && nat_lt (number_of text) (2 ^ 64) then Some (number_of text) else None
