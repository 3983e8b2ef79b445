-- What becomes of a journal that is read, and of the file that its state is written to.
use Rattle.std.specs.Prelude.{◌≡◌, ◌⊎◌, ℕ, List, [], ◌∷◌, ◌++◌, true, Result, Ok, Err}
use Rattle.compaction.specs.Lines.{compact_line}
use Rattle.compaction.specs.declared.fault.CompactionFault.{CompactionFault}
use Rattle.compaction.specs.declared.fault.CompactionFault.TheVariants.{Memory, NotEmpty, NotRead, WriteFailed}
use Rattle.journal_file.specs.Blocks.{HasBlocks, compacted_name}
use Rattle.journal_file.specs.Unfinished.{IsUnfinished, LeavesOthers}
use Rattle.plain_exchange.specs.Effects.{kept_effects}
use Rattle.plain_exchange.specs.State.{State, forget}
use Rattle.recovery.specs.Openings.{Opens}
use Rattle.recovery.specs.Texts.{GivesState, IsTextOf}
use Rattle.rtb_disk.specs.Stores.{Always, EachImage, Store, settled}

-- the image is a journal under the name of compacted ones, of just the effects that make the state again, and gives it
pub record IsCompacted (state : State) (image : List ℕ) : Type 0 where
  pub payloads : List (List ℕ)
  pub blocks : HasBlocks (compacted_name ∷ []) payloads image
  pub text : IsTextOf payloads (kept_effects state)
  pub gives : GivesState image state

-- it is not finished, so that a later compaction takes it, or it is that journal
abbrev pub IsUnfinishedOrCompacted : State → List ℕ → Type 0
IsUnfinishedOrCompacted state image = IsUnfinished image ⊎ IsCompacted state image

-- What becomes of the file that the state is written to, by what is answered. It was taken where it was not finished;
-- any other is left as it is, also where a call of its disk fails. A crash at any moment behind the first sync leaves it unfinished, or the journal of the
-- state; behind the last sync, that journal.
abbrev pub Writes : State → Store → Store → Result Unit CompactionFault → Type 0
Writes state store store' (Ok _) = IsUnfinished store.reads × Always (IsUnfinishedOrCompacted state) (settled store) store' × EachImage (IsCompacted state) store'.now
Writes state store store' (Err NotEmpty) = (IsUnfinished store.reads → ⊥) × (store' ≡ settled store)
Writes state store store' (Err WriteFailed) = LeavesOthers store store' × (IsUnfinished store.reads → (store' ≡ store) ⊎ Always (IsUnfinishedOrCompacted state) (settled store) store')
Writes state store store' (Err Memory) = IsUnfinished store.reads × Always IsUnfinished (settled store) store'
Writes state store store' (Err (NotRead fault)) = ⊥

-- what is written, and to what end: the state that the journal gives, without its oldest sales but for so many
abbrev pub Keeps : ℕ → Store → Store → Store → Result Unit CompactionFault → State → Type 0
Keeps keep from into into' done state = (from.told ≡ true → GivesState from.reads state) × (into.told ≡ true → Writes (forget keep state) into into' done)

-- What a compaction comes to, by what is answered: the journal was not read, and nothing was done to the other file; or
-- it gave a state, and what is left of that was written there, or was not.
abbrev pub Compacts : ℕ → Store → Store → Store → List ℕ → List ℕ → Result Unit CompactionFault → Type 0
Compacts keep from into into' line line' (Ok _) = (state : State) × Keeps keep from into into' (Ok tt) state × (line' ≡ line ++ compact_line (forget keep state))
Compacts keep from into into' line line' (Err NotEmpty) = (state : State) × Keeps keep from into into' (Err NotEmpty) state
Compacts keep from into into' line line' (Err WriteFailed) = (state : State) × Keeps keep from into into' (Err WriteFailed) state
Compacts keep from into into' line line' (Err Memory) = (state : State) × Keeps keep from into into' (Err Memory) state
Compacts keep from into into' line line' (Err (NotRead fault)) = (from.told ≡ true → Opens from.reads (Err fault)) × (into' ≡ into)
