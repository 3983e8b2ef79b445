-- What a decimal text is worth, and how an amount is written.
use Rattle.std.specs.Prelude.{ℕ, zero, suc, ◌+◌, ◌-◌, ◌*◌, ◌/◌, ◌%◌, ◌^◌, ◌==◌, ◌&&◌, ◌||◌, nat_le, not, List, [], ◌∷◌, ◌++◌, length, Bool, false, if◌then◌else◌, decimal}
use Rattle.std.specs.List.{list_all, list_any, before_first, after_first}

abbrev pub is_digit : ℕ → Bool
is_digit c = nat_le 48 c && nat_le c 57

abbrev pub is_point : ℕ → Bool
is_point c = c == 46

-- the `int` of RFC 8259, section 6: at least one digit, and no needless leading zero
abbrev pub is_whole_part : List ℕ → Bool
is_whole_part [] = false
is_whole_part (c ∷ s) = list_all is_digit (c ∷ s) && (not (c == 48) || length s == 0)

-- a number of RFC 8259, section 6, without sign and without exponent
abbrev pub is_decimal : List ℕ → Bool
is_decimal text = is_whole_part (before_first is_point text)
    && (not (list_any is_point text) || (list_all is_digit (after_first is_point text) && not (length (after_first is_point text) == 0)))

-- what digits spell: each counts as often as the power of ten of its place says
unfoldable pub number_of : List ℕ → ℕ
number_of [] = 0
number_of (c ∷ s) = (c - 48) * 10 ^ length s + number_of s

-- all the digits of a decimal text
abbrev pub digits_of : List ℕ → List ℕ
digits_of text = before_first is_point text ++ after_first is_point text

-- how many of them stand behind the point
abbrev pub places_of : List ℕ → ℕ
places_of text = length (after_first is_point text)

-- the digits of r / 10 ^ k behind the point, up to the last that is not 0
unfoldable pub fraction_digits : ℕ → ℕ → List ℕ
fraction_digits zero r = []
fraction_digits (suc k) r = if r == 0 then [] else (48 + r / 10 ^ k) ∷ fraction_digits k (r % 10 ^ k)

-- n / 10 ^ k as a number of RFC 8259: the whole part, and behind a point what is left, if anything is
abbrev pub amount_text : ℕ → ℕ → List ℕ
amount_text k n = decimal (n / 10 ^ k) ++ (if n % 10 ^ k == 0 then [] else 46 ∷ fraction_digits k (n % 10 ^ k))

-- the price in US dollars, and the amount of money in US dollars
abbrev pub micros_text : ℕ → List ℕ
micros_text m = amount_text 6 m

abbrev pub nanos_text : ℕ → List ℕ
nanos_text n = amount_text 9 n
