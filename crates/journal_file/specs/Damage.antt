-- What stands at a gate, and damage.
use Rattle.std.specs.Prelude.{◌≡◌, ◌≢◌, ◌⊎◌, ℕ, ◌+◌, List, [], ◌∷◌, ◌++◌, length, Option, Some, None, Result, Ok, Err}
use Rattle.journal_file.specs.Blocks.{IsName, IsTornCreation, block_bytes, front_of}
use Rattle.journal_file.specs.declared.faults.JournalFault.{JournalFault}
use Rattle.journal_file.specs.declared.faults.JournalFault.TheVariants as fault

-- these bytes begin with an open gate and the payload's block, and a gate stands behind it
pub record HasBlock (payload bytes : List ℕ) : Type 0 where
  pub gate : ℕ
  pub rest : List ℕ
  pub there : bytes ≡ 1 ∷ (block_bytes payload ++ gate ∷ rest)

-- these bytes begin with a closed gate, or there are none
abbrev pub IsShut : List ℕ → Type 0
IsShut bytes = (bytes ≡ []) ⊎ ((gate : ℕ) × (rest : List ℕ) × (gate ≢ 1) × (bytes ≡ gate ∷ rest))

-- these bytes begin with an open gate, and its block and the next gate do not all lie in them
pub record IsCutShort (bytes : List ℕ) : Type 0 where
  pub rest : List ℕ
  pub there : bytes ≡ 1 ∷ rest
  pub none : (payload : List ℕ) → HasBlock payload bytes → ⊥

-- what is answered to a gate's place, where these are the bytes from it on: the next gate's place, with the
-- payload appended, or none at a closed gate and at the end, or damage there
abbrev pub IsBlockAt : ℕ → List ℕ → List ℕ → List ℕ → Result (Option ℕ) JournalFault → Type 0
IsBlockAt gate bytes before out (Ok (Some next)) = (payload : List ℕ) × HasBlock payload bytes × (next ≡ gate + 9 + length payload) × (out ≡ before ++ payload)
IsBlockAt gate bytes before out (Ok None) = IsShut bytes × (out ≡ before)
IsBlockAt gate bytes before out (Err (fault.Damaged at)) = IsCutShort bytes × (at ≡ gate) × (out ≡ before)
IsBlockAt gate bytes before out (Err fault.DiskFailed) = out ≡ before
IsBlockAt gate bytes before out (Err fault.Memory) = out ≡ before

-- the image is damaged at the gate behind these payloads
pub record IsDamaged (names payloads : List (List ℕ)) (image : List ℕ) : Type 0 where
  pub name : List ℕ
  pub named : IsName names name
  pub rest : List ℕ
  pub cut : IsCutShort rest
  pub file : image ≡ front_of name payloads ++ rest

-- the image is damaged at 0: it is no torn creation, and begins with no open file gate and name
pub record IsForeign (names : List (List ℕ)) (image : List ℕ) : Type 0 where
  pub whole : IsTornCreation image → ⊥
  pub none : (name rest : List ℕ) → IsName names name → image ≡ 1 ∷ name ++ rest → ⊥
