-- The bytes of numbers, flags, texts, options and lists. Numbers have their greatest place first.
-- An `Is..` or `Fits..` beside each says what has such bytes: numbers in their range, lists whose
-- length fits four bytes.
use Rattle.std.specs.Prelude.{ℕ, ◌<◌, ◌≤◌, ◌^◌, List, [], ◌∷◌, ◌++◌, length, Bool, if◌then◌else◌, Option, Some, None, MatchOption, All}
use Rattle.std.specs.List.{flat_map}
use Rattle.std.specs.Int.{w32, w64, to_be_bytes}
use Rattle.byte_fields.specs.Codes.{BeginsAt}

-- one byte
abbrev pub IsByte : ℕ → Type 0
IsByte n = n < 256

abbrev pub byte_bytes : ℕ → List ℕ
byte_bytes n = n ∷ []

-- a number in four bytes, and in eight
abbrev pub FitsFour : ℕ → Type 0
FitsFour n = n < 2 ^ 32

unfoldable pub four_bytes : ℕ → List ℕ
four_bytes n = to_be_bytes w32 n

abbrev pub FitsEight : ℕ → Type 0
FitsEight n = n < 2 ^ 64

unfoldable pub eight_bytes : ℕ → List ℕ
eight_bytes n = to_be_bytes w64 n

-- a flag: one byte, 0 or 1
abbrev pub IsFlag : Bool → Type 0
IsFlag b = Unit {0}

abbrev pub flag_bytes : Bool → List ℕ
flag_bytes b = (if b then 1 else 0) ∷ []

-- a text: its length in four bytes, and then itself
abbrev pub IsShort : List ℕ → Type 0
IsShort text = length text < 2 ^ 32

unfoldable pub text_bytes : List ℕ → List ℕ
text_bytes text = four_bytes (length text) ++ text

-- one or none: a flag, and where it is 1 the bytes of the one
abbrev pub IsOptionOf : {A : Type 0} → (A → Type 0) → Option A → Type 0
IsOptionOf IsValid found = MatchOption found (Unit {0}) IsValid

abbrev pub option_bytes : {A : Type 0} → (A → List ℕ) → Option A → List ℕ
option_bytes encode None = 0 ∷ []
option_bytes encode (Some x) = 1 ∷ encode x

-- a list: how many items it has in four bytes, and then the bytes of each
abbrev pub IsListOf : {A : Type 0} → (A → Type 0) → List A → Type 0
IsListOf IsValid xs = (length xs < 2 ^ 32) × All IsValid xs

-- a list of at most so many items
abbrev pub IsListWithin : {A : Type 0} → ℕ → (A → Type 0) → List A → Type 0
IsListWithin most IsValid xs = IsListOf IsValid xs × (length xs ≤ most)

unfoldable pub list_bytes : {A : Type 0} → (A → List ℕ) → List A → List ℕ
list_bytes encode xs = four_bytes (length xs) ++ flat_map encode xs

-- the four bytes at the place count more items than that
abbrev pub CountsMore : ℕ → List ℕ → ℕ → Type 0
CountsMore most bytes place = (count : ℕ) × (next : ℕ) × FitsFour count × (most < count) × BeginsAt bytes place (four_bytes count) next
