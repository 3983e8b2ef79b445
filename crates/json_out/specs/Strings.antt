-- Strings of RFC 8259, section 7: how the writer writes one, and what one says.
use Rattle.std.specs.Prelude.{◌≡◌, ◌≢◌, ℕ, ◌+◌, ◌*◌, ◌/◌, ◌%◌, ◌<◌, ◌≤◌, ◌==◌, nat_lt, List, [], ◌∷◌, ◌++◌, ◌⊎◌, Option, Some, if◌then◌else◌}
use Rattle.std.specs.List.{flat_map}
use Rattle.std.specs.Map.{lookup}

-- a hexadecimal digit, in lower case
abbrev pub hexadecimal : ℕ → ℕ
hexadecimal n = if nat_lt n 10 then 48 + n else 87 + n

-- A byte inside a string: a quotation mark and a reverse solidus behind a reverse solidus, a
-- control character as `\u00` and two hexadecimal digits, and each other byte as it is.
abbrev pub escape : ℕ → List ℕ
escape c =
    if c == 34 then 92 ∷ 34 ∷ []
    else if c == 92 then 92 ∷ 92 ∷ []
    else if nat_lt c 32 then 92 ∷ 117 ∷ 48 ∷ 48 ∷ hexadecimal (c / 16) ∷ hexadecimal (c % 16) ∷ []
    else c ∷ []

-- the string of these bytes
abbrev pub string_text : List ℕ → List ℕ
string_text s = 34 ∷ (flat_map escape s ++ 34 ∷ [])

-- What a string says. The rules `unescaped` and `char` of section 7 are given byte by byte: bytes
-- from 0x80 on, of which UTF-8 makes a character, stand as they are. A `\u` escape is given for the
-- characters below 0x80, which are one byte each.

-- `unescaped`
abbrev pub IsUnescaped : ℕ → List ℕ → Type 0
IsUnescaped c bytes = (32 ≤ c) × (c ≢ 34) × (c ≢ 92) × (bytes ≡ c ∷ [])

-- the byte behind the `escape`, and the byte that the two stand for
abbrev pub short_escape : ℕ → Option ℕ
short_escape d = lookup (λ k. k == d) ((34, 34) ∷ (92, 92) ∷ (47, 47) ∷ (98, 8) ∷ (102, 12) ∷ (110, 10) ∷ (114, 13) ∷ (116, 9) ∷ [])

abbrev pub IsShortEscape : ℕ → List ℕ → Type 0
IsShortEscape c bytes = (d : ℕ) × (short_escape d ≡ Some c) × (bytes ≡ 92 ∷ d ∷ [])

-- `HEXDIG`, in either case, worth n
abbrev pub IsDigit : ℕ → ℕ → Type 0
IsDigit n d = ((n < 10) × (d ≡ 48 + n)) ⊎ ((10 ≤ n) × (n < 16) × (d ≡ 55 + n)) ⊎ ((10 ≤ n) × (n < 16) × (d ≡ 87 + n))

-- `\u00` and two hexadecimal digits
abbrev pub IsLongEscape : ℕ → List ℕ → Type 0
IsLongEscape c bytes = (high : ℕ) × (low : ℕ) × (a : ℕ) × (b : ℕ) × (high < 8) × (c ≡ 16 * high + low) × IsDigit high a × IsDigit low b × (bytes ≡ 92 ∷ 117 ∷ 48 ∷ 48 ∷ a ∷ b ∷ [])

-- `char`
abbrev pub IsChar : ℕ → List ℕ → Type 0
IsChar c bytes = IsUnescaped c bytes ⊎ IsShortEscape c bytes ⊎ IsLongEscape c bytes

abbrev pub AreChars : List ℕ → List ℕ → Type 0
AreChars [] bytes = bytes ≡ []
AreChars (c ∷ s) bytes = (a : List ℕ) × (b : List ℕ) × IsChar c a × AreChars s b × (bytes ≡ a ++ b)

-- `string`: these bytes are a string that says s
abbrev pub IsString : List ℕ → List ℕ → Type 0
IsString s bytes = (inside : List ℕ) × AreChars s inside × (bytes ≡ 34 ∷ (inside ++ 34 ∷ []))
