-- What the calls of a block's reading showed, one by one. Private.
use Rattle.std.specs.Prelude.{◌≡◌, ℕ, ◌+◌, ◌<◌, ◌≤◌, List, [], ◌∷◌, ◌++◌, length, Bool, true, false, Option, Some, None, Result, Ok, Err}
use Rattle.byte_fields.specs.Encodings.{FitsEight, eight_bytes}
use Rattle.journal_file.specs.Blocks.{block_bytes}
use Rattle.journal_file.specs.Damage.{IsShut}
use Rattle.journal_file.specs.Shows.{IsEndShown, IsShownAt, Shows, ShowsShort}
use Rattle.journal_file.specs.Sizes.{IsSizeAt}
use Rattle.journal_file.specs.declared.faults.JournalFault.{JournalFault}
use Rattle.journal_file.specs.declared.faults.JournalFault.TheVariants as fault
use Rattle.journal_file.specs.declared.payloads.ReadFault.{ReadFault}
use Rattle.rtb_disk.specs.Showing.{Shown, bytes_from, length_was}
use Rattle.rtb_num.specs.declared.streams.Failed.{Failed}

abbrev pub IsGateShown : ℕ → List Shown → Bool → Type 0
IsGateShown gate shown true = shown ≡ bytes_from gate 1 (1 ∷ []) ∷ []
IsGateShown gate shown false = (front : List ℕ) × IsShut front × (shown ≡ bytes_from gate 1 front ∷ [])

-- or nothing, where the disk failed
abbrev pub IsGateSeen : ℕ → List Shown → Result Bool Failed → Type 0
IsGateSeen gate shown (Ok test) = IsGateShown gate shown test
IsGateSeen gate shown (Err e) = shown ≡ []

abbrev pub IsNumberShown : ℕ → List Shown → Option ℕ → Type 0
IsNumberShown place shown (Some n) = FitsEight n × (shown ≡ bytes_from place 8 (eight_bytes n) ∷ [])
IsNumberShown place shown None = (word : List ℕ) × IsSizeAt word None × (shown ≡ bytes_from place 8 word ∷ [])

abbrev pub IsNumberSeen : ℕ → List Shown → Result (Option ℕ) Failed → Type 0
IsNumberSeen place shown (Ok found) = IsNumberShown place shown found
IsNumberSeen place shown (Err e) = shown ≡ []

-- a length that has room for the block, and then the block's size
abbrev pub IsRoomShown : ℕ → ℕ → List Shown → Type 0
IsRoomShown gate size shown = (end : ℕ) × (gate + 10 + size ≤ end) × FitsEight size × (shown ≡ length_was end ∷ bytes_from (gate + 1) 8 (eight_bytes size) ∷ [])

-- it was not shown that the block is not all there
abbrev pub IsNotShort : ℕ → List Shown → Type 0
IsNotShort gate shown = ShowsShort gate shown → ⊥

abbrev pub IsSizeShown : ℕ → List Shown → Result (Option ℕ) Failed → Type 0
IsSizeShown gate shown (Ok (Some size)) = IsRoomShown gate size shown
IsSizeShown gate shown (Ok None) = ShowsShort gate shown
IsSizeShown gate shown (Err e) = IsNotShort gate shown

-- calls that each showed some bytes, from the place on or behind it
abbrev pub AreSome : ℕ → List Shown → Type 0
AreSome place [] = Unit {0}
AreSome place (bytes_from from asked bytes ∷ shown) = (place ≤ from) × (0 < length bytes) × AreSome place shown
AreSome place (length_was end ∷ shown) = ⊥

-- so many bytes were shown at the place, or that they end before; or a part of them, where it failed
abbrev pub ArePayloadShown : ℕ → ℕ → List Shown → List ℕ → List ℕ → Result Bool ReadFault → Type 0
ArePayloadShown place count shown before out (Ok true) = ((bytes : List ℕ) × Shows shown place bytes × (out ≡ before ++ bytes)) × AreSome place shown
ArePayloadShown place count shown before out (Ok false) = (at : ℕ) × (at < place + count) × IsEndShown shown at
ArePayloadShown place count shown before out (Err e) = AreSome place shown

-- the payload behind a size that was shown
abbrev pub IsRestShown : ℕ → ℕ → List Shown → List ℕ → List ℕ → Result (Option ℕ) JournalFault → Type 0
IsRestShown gate size shown before out (Ok (Some next)) = (payload : List ℕ) × Shows shown (gate + 9) payload × (length payload ≡ size) × (next ≡ gate + 9 + length payload) × (out ≡ before ++ payload) × AreSome (gate + 9) shown
IsRestShown gate size shown before out (Ok None) = ⊥
IsRestShown gate size shown before out (Err (fault.Damaged at)) = ((end : ℕ) × (end < gate + 9 + size) × IsEndShown shown end) × (at ≡ gate) × (out ≡ before)
IsRestShown gate size shown before out (Err fault.DiskFailed) = AreSome (gate + 9) shown × (out ≡ before)
IsRestShown gate size shown before out (Err fault.Memory) = AreSome (gate + 9) shown × (out ≡ before)

-- the block behind a gate that was shown open
abbrev pub IsBehindShown : ℕ → List Shown → List ℕ → List ℕ → Result (Option ℕ) JournalFault → Type 0
IsBehindShown gate shown before out (Ok (Some next)) = (payload : List ℕ) × Shows shown (gate + 1) (block_bytes payload) × (next ≡ gate + 9 + length payload) × (out ≡ before ++ payload) × IsNotShort gate shown
IsBehindShown gate shown before out (Ok None) = ⊥
IsBehindShown gate shown before out (Err (fault.Damaged at)) = ShowsShort gate shown × (at ≡ gate) × (out ≡ before)
IsBehindShown gate shown before out (Err fault.DiskFailed) = IsNotShort gate shown × (out ≡ before)
IsBehindShown gate shown before out (Err fault.Memory) = IsNotShort gate shown × (out ≡ before)
