-- What calls of a disk showed of a block, also where others append to the file between two calls.
use Rattle.std.specs.Prelude.{◌≡◌, ◌≢◌, ◌⊎◌, ℕ, ◌+◌, ◌<◌, List, [], ◌∷◌, ◌++◌, length, Option, Some, None, Result, Ok, Err}
use Rattle.std.specs.List.{concat}
use Rattle.byte_fields.specs.Encodings.{FitsEight, eight_bytes}
use Rattle.journal_file.specs.Blocks.{block_bytes}
use Rattle.journal_file.specs.declared.faults.JournalFault.{JournalFault}
use Rattle.journal_file.specs.declared.faults.JournalFault.TheVariants as fault
use Rattle.rtb_disk.specs.Showing.{Shown, bytes_from, length_was}

-- Where a disk tells what it shows, more was shown behind what was shown before, and P holds of that alone.
abbrev pub ShowsMore : Option (List Shown) → Option (List Shown) → (List Shown → Type 0) → Type 0
ShowsMore old new P = (before : List Shown) → old ≡ Some before → (more : List Shown) × (new ≡ Some (before ++ more)) × P more

-- this was shown, in one of the calls
pub record WasShown (shown : List Shown) (one : Shown) : Type 0 where
  pub earlier : List Shown
  pub later : List Shown
  pub among : shown ≡ earlier ++ one ∷ later

-- these bytes at this place were shown in one call, maybe with others around them
pub record IsShownAt (shown : List Shown) (place : ℕ) (bytes : List ℕ) : Type 0 where
  pub from : ℕ
  pub asked : ℕ
  pub before : List ℕ
  pub after : List ℕ
  pub there : WasShown shown (bytes_from from asked (before ++ bytes ++ after))
  pub place_is : place ≡ from + length before

-- no byte was shown at this place, where some were asked for
pub record IsEndShown (shown : List Shown) (place : ℕ) : Type 0 where
  pub asked : ℕ
  pub some : 0 < asked
  pub there : WasShown shown (bytes_from place asked [])

-- these pieces, one behind the other, were each shown in one call
abbrev pub AreShownAt : List Shown → ℕ → List (List ℕ) → Type 0
AreShownAt shown place [] = Unit {0}
AreShownAt shown place (piece ∷ pieces) = IsShownAt shown place piece × AreShownAt shown (place + length piece) pieces

-- all of these bytes at this place were shown, piece by piece
pub record Shows (shown : List Shown) (place : ℕ) (bytes : List ℕ) : Type 0 where
  pub pieces : List (List ℕ)
  pub are : AreShownAt shown place pieces
  pub whole : bytes ≡ concat pieces

-- the first call showed the gate open
pub record ShowsOpen (gate : ℕ) (shown : List Shown) : Type 0 where
  pub first : Shown
  pub later : List Shown
  pub begins : shown ≡ first ∷ later
  pub is_open : IsShownAt (first ∷ []) gate (1 ∷ [])

-- and since then, that call counted, all of the block was shown
pub record ShowsBlock (gate : ℕ) (payload : List ℕ) (shown : List Shown) : Type 0 where
  pub gate_open : ShowsOpen gate shown
  pub block : Shows shown gate (1 ∷ block_bytes payload)

-- the gate was shown shut, or that the file ends before it
abbrev pub ShowsShut : ℕ → List Shown → Type 0
ShowsShut gate shown = IsEndShown shown gate ⊎ ((byte : ℕ) × (byte ≢ 1) × IsShownAt shown gate (byte ∷ []))

-- It was shown that a block and the next gate are not all there: the length, or what is no number where the block's size
-- stands, or the size and a length too small for it, or the size and that nothing more stands before its end. A size is a
-- number of eight bytes, so what was shown of it is of one size alone.
pub data ShowsShort (gate : ℕ) (shown : List Shown) : Type 0 where
  no_room : (end : ℕ) → end < gate + 10 → WasShown shown (length_was end) → ShowsShort gate shown
  no_size : (word : List ℕ) → ((n : ℕ) (rest : List ℕ) → FitsEight n → word ≡ eight_bytes n ++ rest → ⊥) → WasShown shown (bytes_from (gate + 1) 8 word) → ShowsShort gate shown
  too_long : (size end : ℕ) → FitsEight size → IsShownAt shown (gate + 1) (eight_bytes size) → end < gate + 10 + size → WasShown shown (length_was end) → ShowsShort gate shown
  ended : (size at : ℕ) → FitsEight size → IsShownAt shown (gate + 1) (eight_bytes size) → at < gate + 9 + size → IsEndShown shown at → ShowsShort gate shown

-- the first call showed the gate open, and those behind it that its block is not there whole
pub record ShowsCut (gate : ℕ) (shown : List Shown) : Type 0 where
  pub gate_open : ShowsOpen gate shown
  pub short : ShowsShort gate gate_open.later

-- What is answered to a gate's place, by what was shown in that call alone.
abbrev pub IsBlockShown : ℕ → List Shown → List ℕ → List ℕ → Result (Option ℕ) JournalFault → Type 0
IsBlockShown gate shown before out (Ok (Some next)) = (payload : List ℕ) × ShowsBlock gate payload shown × (next ≡ gate + 9 + length payload) × (out ≡ before ++ payload)
IsBlockShown gate shown before out (Ok None) = ShowsShut gate shown × (out ≡ before)
IsBlockShown gate shown before out (Err (fault.Damaged at)) = ShowsCut gate shown × (at ≡ gate) × (out ≡ before)
IsBlockShown gate shown before out (Err fault.DiskFailed) = out ≡ before
IsBlockShown gate shown before out (Err fault.Memory) = ShowsOpen gate shown × (out ≡ before)

-- Damage that was shown is answered as that, whatever else was shown: not as a block or the end, and neither as a failed disk
-- nor as want of memory.
abbrev pub TellsCut : ℕ → List Shown → Result (Option ℕ) JournalFault → Type 0
TellsCut gate shown result = ShowsCut gate shown → result ≡ Err (fault.Damaged gate)
