-- The bytes of a journal file, and the payloads that a file stands for.
use Rattle.std.specs.Prelude.{◌≡◌, ◌≢◌, ◌⊎◌, ℕ, ◌+◌, ◌<◌, List, [], ◌∷◌, ◌++◌, length, codes, slice_index, Contains}
use Rattle.byte_fields.specs.Encodings.{eight_bytes}

-- the name in a file that was created empty, and in one that was written by compaction
abbrev pub created_name : List ℕ
created_name = codes "RTBXJ01"

abbrev pub compacted_name : List ℕ
compacted_name = codes "RTBXJ02"

-- the names that are read
abbrev pub journal_names : List (List ℕ)
journal_names = created_name ∷ compacted_name ∷ []

-- one of these names, of seven bytes
pub record IsName (names : List (List ℕ)) (name : List ℕ) : Type 0 where
  pub known : Contains names name
  pub seven : length name ≡ 7

-- what stands behind an open gate: the payload's length and the payload
unfoldable pub block_bytes : List ℕ → List ℕ
block_bytes payload = eight_bytes (length payload) ++ payload

-- blocks of these payloads, each behind an open gate
unfoldable pub open_blocks : List (List ℕ) → List ℕ
open_blocks [] = []
open_blocks (payload ∷ payloads) = 1 ∷ block_bytes payload ++ open_blocks payloads

-- an open file gate, the name, and open blocks of these payloads
unfoldable pub front_of : List ℕ → List (List ℕ) → List ℕ
front_of name payloads = 1 ∷ name ++ open_blocks payloads

-- the place of the gate behind the last of them
unfoldable pub end_of : List (List ℕ) → ℕ
end_of payloads = 8 + length (open_blocks payloads)

-- the file is open blocks of these payloads under one of the names, a closed gate, and anything
pub record HasBlocks (names payloads : List (List ℕ)) (image : List ℕ) : Type 0 where
  pub name : List ℕ
  pub named : IsName names name
  pub gate : ℕ
  pub rest : List ℕ
  pub closed : gate ≢ 1
  pub file : image ≡ front_of name payloads ++ gate ∷ rest

-- behind these payloads and some gate stands the block, and then a closed gate
pub record HasBehind (names payloads : List (List ℕ)) (block image : List ℕ) : Type 0 where
  pub name : List ℕ
  pub named : IsName names name
  pub gate : ℕ
  pub rest : List ℕ
  pub file : image ≡ front_of name payloads ++ gate ∷ (block_bytes block ++ 0 ∷ rest)

-- a creation that was not finished
abbrev pub IsTornCreation : List ℕ → Type 0
IsTornCreation image = (length image < 9) ⊎ ((length image ≡ 9) × (slice_index image 0 ≢ 1))

-- the payloads that a file stands for
abbrev pub StandsFor : List (List ℕ) → List (List ℕ) → List ℕ → Type 0
StandsFor names payloads image = HasBlocks names payloads image ⊎ ((payloads ≡ []) × IsTornCreation image)
