-- What a follower carries out in one call, by what its disk showed in that call alone: so also where another program
-- appends to the file meanwhile.
use Rattle.std.specs.Prelude.{◌≡◌, ◌⊎◌, ℕ, ◌+◌, ◌<◌, ◌≤◌, List, [], ◌∷◌, ◌++◌, length, drop, None, Result, Ok, Err}
use Rattle.effects.specs.Bytes.{IsDecoded}
use Rattle.journal_file.specs.Blocks.{IsTornCreation, journal_names}
use Rattle.journal_file.specs.Damage.{IsForeign}
use Rattle.journal_file.specs.Openings.{HasHeader}
use Rattle.journal_file.specs.Shows.{ShowsBlock, ShowsCut, ShowsOpen, ShowsShut, WasShown}
use Rattle.journal_file.specs.declared.faults.JournalFault.{JournalFault}
use Rattle.journal_file.specs.declared.faults.JournalFault.TheVariants as fault
use Rattle.plain_exchange.specs.declared.changes.Effect.{Effect}
use Rattle.plain_exchange.specs.Effects.{all_applied}
use Rattle.plain_exchange.specs.State.{State}
use Rattle.rtb_disk.specs.Showing.{Shown, bytes_from, length_was}

-- since some call, which showed the gate open, this was shown
abbrev pub Since : (List Shown → Type 0) → List Shown → Type 0
Since P shown = (earlier : List Shown) × (since : List Shown) × (shown ≡ earlier ++ since) × P since

-- the block at the gate was shown, behind its open gate, and these are its effects
abbrev pub IsSeen : List Shown → ℕ → List ℕ → List Effect → Type 0
IsSeen shown gate payload block = Since (ShowsBlock gate payload) shown × IsDecoded payload (Ok block)

-- These are effects of the block at the gate behind the first `done` of it, up to the first `done'`; or none are, whatever
-- stands there.
abbrev pub AreOfBlock : List Shown → ℕ → ℕ → List Effect → ℕ → Type 0
AreOfBlock shown gate done effects done' = (done' ≡ done + length effects)
    × ((effects ≡ []) ⊎ ((payload : List ℕ) × (block : List Effect) × (left : List Effect) × IsSeen shown gate payload block × (drop done block ≡ effects ++ left)))

-- These are the effects of these blocks, which were shown one behind the other from the gate on, but for the first `done`
-- of the first, and of the block behind them, as far as its first `done'`.
abbrev pub AreFrom : List Shown → ℕ → ℕ → List (List Effect) → List Effect → ℕ → ℕ → Type 0
AreFrom shown gate done [] effects gate' done' = (gate' ≡ gate) × AreOfBlock shown gate done effects done'
AreFrom shown gate done (block ∷ blocks) effects gate' done' =
    (payload : List ℕ) × (more : List Effect) × IsSeen shown gate payload block × (effects ≡ drop done block ++ more) × AreFrom shown (gate + 9 + length payload) 0 blocks more gate' done'

-- P holds of the first ten bytes of the file, or of all that it had, as a call showed them
abbrev pub SeesHead : (List ℕ → Type 0) → List Shown → Type 0
SeesHead P shown = (head : List ℕ) × WasShown shown (bytes_from 0 10 head) × P head

-- The first gate that is looked at: where the follower stood, or that behind the name, once the file is a journal.
abbrev pub StartsAt : List Shown → ℕ → ℕ → Type 0
StartsAt shown gate first = ((0 < gate) × (first ≡ gate)) ⊎ ((gate ≡ 0) × (first ≡ 8) × SeesHead (HasHeader journal_names) shown)

-- What was carried out since, from the one place to the other: effects of the blocks between them, or none.
abbrev pub AreCarried : List Shown → ℕ → ℕ → List Effect → ℕ → ℕ → Type 0
AreCarried shown gate done effects gate' done' =
    ((effects ≡ []) × (gate' ≡ gate) × (done' ≡ done))
    ⊎ ((first : ℕ) × (blocks : List (List Effect)) × StartsAt shown gate first × AreFrom shown first done blocks effects gate' done')

-- Nothing more was shown behind the place: the gate shut, or a length that ends there, or a creation that is not finished.
abbrev pub SeesEnd : List Shown → ℕ → Type 0
SeesEnd shown gate = ShowsShut gate shown
    ⊎ ((size : ℕ) × (size ≤ gate) × WasShown shown (length_was size))
    ⊎ ((gate ≡ 0) × SeesHead IsTornCreation shown)

-- The block at the gate was shown not to be whole, or it is no effects, or those that are left of it do not fit.
abbrev pub SeesBadBlock : List Shown → ℕ → ℕ → State → Type 0
SeesBadBlock shown gate done s =
    Since (ShowsCut gate) shown
    ⊎ ((payload : List ℕ) × Since (ShowsBlock gate payload) shown × ((block : List Effect) → IsDecoded payload (Ok block) → all_applied (drop done block) s ≡ None))

-- damage at a gate, or a file that is no journal
abbrev pub SeesDamage : List Shown → ℕ → ℕ → State → ℕ → Type 0
SeesDamage shown gate done s at =
    ((0 < gate) × (at ≡ gate) × SeesBadBlock shown gate done s)
    ⊎ ((gate ≡ 0) × (at ≡ 0) × SeesHead (IsForeign journal_names) shown)

-- Its gate was shown open, and nothing since then that the block is not whole. So neither that nor a file that is no journal
-- is told as want of memory; of effects that do not fit, behind a whole block, this says nothing.
abbrev pub SeesNoCut : List Shown → ℕ → Type 0
SeesNoCut shown gate = (0 < gate) × Since (λ since. ShowsOpen gate since × (ShowsCut gate since → ⊥)) shown

-- why it ended there
abbrev pub SeesWhy : List Shown → ℕ → ℕ → State → Result ℕ JournalFault → Type 0
SeesWhy shown gate done s (Ok count) = SeesEnd shown gate
SeesWhy shown gate done s (Err (fault.Damaged at)) = SeesDamage shown gate done s at
SeesWhy shown gate done s (Err fault.DiskFailed) = Unit {0}
SeesWhy shown gate done s (Err fault.Memory) = SeesNoCut shown gate
