-- The length of a block, where it is read. Private.
use Rattle.std.specs.Prelude.{◌≡◌, ℕ, List, ◌∷◌, ◌++◌, Option, Some, None}
use Rattle.byte_fields.specs.Encodings.{FitsEight, eight_bytes}
use Rattle.journal_file.specs.Damage.{IsCutShort}

-- these bytes begin with this number, or with none
abbrev pub IsSizeAt : List ℕ → Option ℕ → Type 0
IsSizeAt bytes (Some n) = (rest : List ℕ) × FitsEight n × (bytes ≡ eight_bytes n ++ rest)
IsSizeAt bytes None = (n : ℕ) (rest : List ℕ) → FitsEight n → bytes ≡ eight_bytes n ++ rest → ⊥

-- behind an open gate, the length of a payload whose block and next gate are all there, or none
abbrev pub IsWholeSize : List ℕ → Option ℕ → Type 0
IsWholeSize bytes (Some n) = (rest : List ℕ) × (bytes ≡ eight_bytes n ++ rest)
IsWholeSize bytes None = IsCutShort (1 ∷ bytes)
