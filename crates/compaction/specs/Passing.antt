-- Only private clauses cite this file. Blocks of a journal that are passed, one after the other.
use Rattle.std.specs.Prelude.{◌≡◌, ℕ, ◌+◌, List, [], ◌∷◌, ◌++◌, length, drop, Bool, true, false, Some, Result, Ok, Err}
use Rattle.compaction.specs.Beside.{BeginsWith, Gains, IsReadAsItStood, NotBegun, Says, ShowsStop, Stands, StaysUnfinished, StopsAt, StopsBeside, store_beside}
use Rattle.compaction.specs.Gathering.{Holds}
use Rattle.compaction.specs.Seen.{AreShown, SeesBadBlock}
use Rattle.compaction.specs.declared.beside.Beside.{Beside}
use Rattle.compaction.specs.declared.fault.CompactionFault.{CompactionFault}
use Rattle.compaction.specs.declared.fault.CompactionFault.TheVariants.{Memory, NotEmpty, NotRead, WriteFailed}
use Rattle.journal_file.specs.Blocks.{end_of, open_blocks}
use Rattle.journal_file.specs.Compaction.{Adds}
use Rattle.journal_file.specs.Damage.{IsShut}
use Rattle.journal_file.specs.Shows.{ShowsMore, ShowsShut}
use Rattle.journal_file.specs.declared.compaction.Compact.{Compact}
use Rattle.journal_file.specs.declared.faults.JournalFault.{JournalFault}
use Rattle.journal_file.specs.declared.faults.JournalFault.TheVariants as journal
use Rattle.plain_exchange.specs.declared.changes.Effect.{Effect}
use Rattle.plain_exchange.specs.Effects.{all_applied, kept_effects}
use Rattle.plain_exchange.specs.State.{State}
use Rattle.recovery.specs.Damage.{IsBadBlock}
use Rattle.recovery.specs.Texts.{IsTextOf}
use Rattle.rtb_disk.specs.Showing.{Shown}
use Rattle.rtb_disk.specs.Stores.{Store}
use Rattle.rtb_disk.specs.declared.disk.Disk.{Ghosts}

-- Blocks of these payloads were passed from the one gate to the other, and their effects lead from the one state to the
-- other; and what is known of the bytes behind them, and of what was shown.
pub record Walks {D : Type 0} (G : Ghosts D) (There : List ℕ → Type 0) (Seen : List Shown → Type 0) (old new : D) (payloads : List (List ℕ)) (s s' : State) (gate gate' : ℕ) : Type 0 where
  pub effects : List Effect
  pub text : IsTextOf payloads effects
  pub applied : all_applied effects s ≡ Some s'
  pub place : gate' ≡ gate + length (open_blocks payloads)
  pub told : (G.store old).told ≡ true → (before : List (List ℕ)) → gate ≡ end_of before → BeginsWith before (G.store old).reads → BeginsWith (before ++ payloads) (G.store old).reads × There (drop gate' (G.store old).reads)
  pub shows : ShowsMore (G.shown old) (G.shown new) (λ shown. AreShown shown gate payloads × Seen shown)

abbrev pub AnyBytes : List ℕ → Type 0
AnyBytes bytes = Unit {0}

abbrev pub AnyShown : List Shown → Type 0
AnyShown shown = Unit {0}

module _ {D : Type 0} (G : Ghosts D) where
  -- there may be more
  abbrev pub WalkedOn : D → D → List (List ℕ) → State → State → ℕ → ℕ → Type 0
  WalkedOn old new payloads s s' gate gate' = Walks G AnyBytes AnyShown old new payloads s s' gate gate'

  -- up to a gate that is shut
  abbrev pub WalkedToEnd : D → D → List (List ℕ) → State → State → ℕ → ℕ → Type 0
  WalkedToEnd old new payloads s s' gate gate' = Walks G IsShut (ShowsShut gate') old new payloads s s' gate gate'

  -- up to a bad block
  abbrev pub WalkedToBad : D → D → State → ℕ → ℕ → Type 0
  WalkedToBad old new s gate at = (payloads : List (List ℕ)) × (t : State) × Walks G (λ bytes. IsBadBlock bytes t) (SeesBadBlock at t) old new payloads s t gate at

  -- why no more was passed
  abbrev pub WhyNot : D → D → State → ℕ → JournalFault → Type 0
  WhyNot old new s gate (journal.Damaged at) = WalkedToBad old new s gate at
  WhyNot old new s gate journal.DiskFailed = Unit {0}
  WhyNot old new s gate journal.Memory = Unit {0}

  -- the block with this payload was passed, or there is none
  abbrev pub Steps : D → D → List ℕ → State → State → ℕ → ℕ → Result Bool JournalFault → Type 0
  Steps old new payload s s' gate gate' (Ok true) = WalkedOn old new (payload ∷ []) s s' gate gate'
  Steps old new payload s s' gate gate' (Ok false) = WalkedToEnd old new [] s s' gate gate'
  Steps old new payload s s' gate gate' (Err fault) = WhyNot old new s gate fault

  -- all blocks were passed
  abbrev pub AreRead : D → D → State → State → ℕ → ℕ → Result Unit JournalFault → Type 0
  AreRead old new s s' gate gate' (Ok _) = (payloads : List (List ℕ)) × WalkedToEnd old new payloads s s' gate gate'
  AreRead old new s s' gate gate' (Err fault) = WhyNot old new s gate fault

  -- a journal, from its front on
  pub record ReadWhole (old new : D) (payloads : List (List ℕ)) (state : State) (gate : ℕ) : Type 0 where
    pub says : Says payloads state
    pub place : gate ≡ end_of payloads
    pub read : IsReadAsItStood G payloads old new

  abbrev pub IsJournalRead : D → D → State → ℕ → Result Unit JournalFault → Type 0
  IsJournalRead old new state gate (Ok _) = (payloads : List (List ℕ)) × ReadWhole old new payloads state gate
  IsJournalRead old new state gate (Err (journal.Damaged at)) = ((G.store old).told ≡ true → StopsAt [] [] at (G.store old).reads) × ShowsMore (G.shown old) (G.shown new) (ShowsStop [] [] at)
  IsJournalRead old new state gate (Err journal.DiskFailed) = Unit {0}
  IsJournalRead old new state gate (Err journal.Memory) = Unit {0}

  -- blocks of these payloads were added behind those that the file has
  abbrev pub AreAdded : Compact D G → Compact D G → List (List ℕ) → Type 0
  AreAdded file file' payloads = (written : List (List ℕ)) → Adds file written → Adds file' (written ++ payloads)

  abbrev pub WhyNotWritten : D → D → State → ℕ → CompactionFault → Type 0
  WhyNotWritten old new s gate (NotRead fault) = WhyNot old new s gate fault
  WhyNotWritten old new s gate NotEmpty = ⊥
  WhyNotWritten old new s gate WriteFailed = Unit {0}
  WhyNotWritten old new s gate Memory = Unit {0}

  abbrev pub WritesStep : D → D → State → State → ℕ → ℕ → Compact D G → Compact D G → Result Bool CompactionFault → Type 0
  WritesStep old new s s' gate gate' file file' (Ok true) = (payloads : List (List ℕ)) × WalkedOn old new payloads s s' gate gate' × AreAdded file file' payloads
  WritesStep old new s s' gate gate' file file' (Ok false) = WalkedToEnd old new [] s s' gate gate' × AreAdded file file' []
  WritesStep old new s s' gate gate' file file' (Err fault) = WhyNotWritten old new s gate fault

  abbrev pub AreWritten : D → D → State → State → ℕ → ℕ → Compact D G → Compact D G → Result Unit CompactionFault → Type 0
  AreWritten old new s s' gate gate' file file' (Ok _) = (payloads : List (List ℕ)) × WalkedToEnd old new payloads s s' gate gate' × AreAdded file file' payloads
  AreWritten old new s s' gate gate' file file' (Err fault) = WhyNotWritten old new s gate fault

module _ {D : Type 0} {G : Ghosts D} where
  -- the file is begun with what is kept
  pub record BeginsWithKept (kept : State) (gate : ℕ) (into : D) (b : Beside D G) : Type 0 where
    pub state : b.core.state ≡ kept
    pub place : b.gate ≡ gate
    pub holds : (G.store into).told ≡ true → Holds (kept_effects kept) b.file × StaysUnfinished (G.store into) (store_beside b)

  abbrev pub BeginsKept : State → ℕ → D → Result (Beside D G) (D × CompactionFault) → Type 0
  BeginsKept kept gate into (Ok b) = BeginsWithKept kept gate into b
  BeginsKept kept gate into (Err (into', NotRead fault)) = ⊥
  BeginsKept kept gate into (Err (into', NotEmpty)) = NotBegun (G.store into) (G.store into') NotEmpty
  BeginsKept kept gate into (Err (into', WriteFailed)) = NotBegun (G.store into) (G.store into') WriteFailed
  BeginsKept kept gate into (Err (into', Memory)) = NotBegun (G.store into) (G.store into') Memory

  -- all blocks that the journal gained were passed, and written behind
  abbrev pub Passes : ℕ → List (List ℕ) → List (List ℕ) → Store → D → D → Beside D G → Result Unit CompactionFault → Type 0
  Passes keep passed written into old new b (Ok _) = (more : List (List ℕ)) × Stands keep (passed ++ more) (written ++ more) into b × Gains G passed more old new
  Passes keep passed written into old new b (Err fault) = StopsBeside G passed written old new into (store_beside b) fault
