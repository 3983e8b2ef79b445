-- What a file that is written whole is before it is finished.
use Rattle.std.specs.Prelude.{◌≡◌, ◌≢◌, ◌⊎◌, ℕ, ◌<◌, List, [], ◌∷◌, ◌++◌, length}
use Rattle.journal_file.specs.Blocks.{HasBlocks, compacted_name}
use Rattle.rtb_disk.specs.Stores.{Store, settled}

-- The image is not finished, and may be written anew: it has fewer than nine bytes, or its file gate is 0,
-- or the gate is not open and the name of a compacted file stands behind it. No such image is a journal.
abbrev pub IsUnfinished : List ℕ → Type 0
IsUnfinished image = (length image < 9) ⊎ (((rest : List ℕ) × (image ≡ 0 ∷ rest)) ⊎ ((gate : ℕ) × (rest : List ℕ) × (gate ≢ 1) × (image ≡ gate ∷ compacted_name ++ rest)))

-- a file that may not be written anew is synced at most
abbrev pub LeavesOthers : Store → Store → Type 0
LeavesOthers store store' = (IsUnfinished store.reads → ⊥) → (store' ≡ store) ⊎ (store' ≡ settled store)

-- or it is finished, and has these payloads
abbrev pub IsUnfinishedOr : List (List ℕ) → List ℕ → Type 0
IsUnfinishedOr payloads image = IsUnfinished image ⊎ HasBlocks (compacted_name ∷ []) payloads image

-- the file gate is 0
abbrev pub BeginsZero : List ℕ → Type 0
BeginsZero image = (rest : List ℕ) × (image ≡ 0 ∷ rest)
