-- Blocks of a journal, by what its disk showed of them, also where another program appends to the file meanwhile.
use Rattle.std.specs.Prelude.{◌≡◌, ◌⊎◌, ℕ, ◌+◌, List, [], ◌∷◌, ◌++◌, length}
use Rattle.journal_file.specs.Shows.{ShowsBlock, ShowsCut, WasShown}
use Rattle.plain_exchange.specs.State.{State}
use Rattle.recovery.specs.Damage.{IsUnfit}
use Rattle.rtb_disk.specs.Showing.{Shown, bytes_from}

-- since some call, which showed the gate open, this was shown
abbrev pub Since : (List Shown → Type 0) → List Shown → Type 0
Since P shown = (earlier : List Shown) × (since : List Shown) × (shown ≡ earlier ++ since) × P since

-- blocks of these payloads were shown one behind the other from the gate on, each behind its open gate
abbrev pub AreShown : List Shown → ℕ → List (List ℕ) → Type 0
AreShown shown gate [] = Unit {0}
AreShown shown gate (payload ∷ payloads) = Since (ShowsBlock gate payload) shown × AreShown shown (gate + 9 + length payload) payloads

-- P holds of the first ten bytes of the file, or of all that it had, as a call showed them
abbrev pub SeesHead : (List ℕ → Type 0) → List Shown → Type 0
SeesHead P shown = (head : List ℕ) × WasShown shown (bytes_from 0 10 head) × P head

-- the block at the gate was shown not to be whole, or is no effects, or has one that does not fit the state
abbrev pub SeesBadBlock : ℕ → State → List Shown → Type 0
SeesBadBlock gate s shown = Since (ShowsCut gate) shown ⊎ ((payload : List ℕ) × Since (ShowsBlock gate payload) shown × IsUnfit payload s)
