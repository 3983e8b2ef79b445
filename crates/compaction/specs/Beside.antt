-- A journal that is written anew beside who writes it: which blocks of it were passed, and what the other file has by then.
use Rattle.std.specs.Prelude.{◌≡◌, ◌⊎◌, ℕ, ◌≤◌, min, List, [], ◌∷◌, ◌++◌, length, drop, Bool, Some, true, Result, Ok, Err}
use Rattle.compaction.specs.Lines.{compact_line}
use Rattle.compaction.specs.Seen.{AreShown, SeesBadBlock, SeesHead}
use Rattle.compaction.specs.Trimming.{CanBeGone}
use Rattle.compaction.specs.declared.beside.Beside.{Beside}
use Rattle.compaction.specs.declared.fault.CompactionFault.{CompactionFault}
use Rattle.compaction.specs.declared.fault.CompactionFault.TheVariants.{Memory, NotEmpty, NotRead, WriteFailed}
use Rattle.journal_file.specs.Blocks.{HasBlocks, IsName, IsTornCreation, StandsFor, compacted_name, end_of, front_of, journal_names}
use Rattle.journal_file.specs.Compaction.{Adds, disk_written, faults_written, has_failed, store_written}
use Rattle.journal_file.specs.Damage.{IsForeign}
use Rattle.journal_file.specs.Openings.{HasHeader}
use Rattle.journal_file.specs.Shows.{ShowsMore, ShowsShut}
use Rattle.journal_file.specs.Unfinished.{IsUnfinished, LeavesOthers}
use Rattle.journal_file.specs.declared.faults.JournalFault.TheVariants as journal
use Rattle.plain_exchange.specs.declared.changes.Effect.{Effect}
use Rattle.plain_exchange.specs.Effects.{all_applied, kept_effects, state_of}
use Rattle.plain_exchange.specs.State.{State, forget, forget_first}
use Rattle.recovery.specs.Damage.{IsBadBlock, IsDamagedAt}
use Rattle.recovery.specs.Texts.{GivesState, IsTextOf}
use Rattle.rtb_disk.specs.Showing.{Shown}
use Rattle.rtb_disk.specs.Stores.{Always, EachImage, Store, settled}
use Rattle.rtb_disk.specs.declared.disk.Disk.{Ghosts}

-- ---- payloads, and what they say

-- the effects of these blocks lead from the exchange without campaigns to the state
pub record Says (payloads : List (List ℕ)) (state : State) : Type 0 where
  pub effects : List Effect
  pub text : IsTextOf payloads effects
  pub leads : state_of effects ≡ Some state

-- the image begins with open blocks of these payloads under one of the names, and a gate stands behind them
pub record BeginsWith (payloads : List (List ℕ)) (image : List ℕ) : Type 0 where
  pub name : List ℕ
  pub named : IsName journal_names name
  pub next : ℕ
  pub rest : List ℕ
  pub file : image ≡ front_of name payloads ++ next ∷ rest

-- or its creation was not finished, and there are none
abbrev pub HasFront : List (List ℕ) → List ℕ → Type 0
HasFront payloads image = BeginsWith payloads image ⊎ ((payloads ≡ []) × IsTornCreation image)

-- What is written of the blocks that were passed. Of those that were there at first: the state that they say, without its
-- oldest sales but for so many, as effects. Behind that each block that came since, as it is. So the file says the state of
-- the journal without some of its oldest sales, none of which is held.
pub record Moves (keep : ℕ) (passed written : List (List ℕ)) (state : State) : Type 0 where
  pub read : List (List ℕ)
  pub since : List (List ℕ)
  pub passed_are : passed ≡ read ++ since
  pub first : State
  pub first_said : Says read first
  pub left : min keep (length first.sales) ≤ length (forget keep first).sales
  pub kept : List (List ℕ)
  pub kept_are : IsTextOf kept (kept_effects (forget keep first))
  pub written_are : written ≡ kept ++ since
  pub gained : List Effect
  pub gained_are : IsTextOf since gained
  pub leads : all_applied gained (forget keep first) ≡ Some state
  pub says : Says written state
  pub same : (whole : State) → Says passed whole → (n : ℕ) × CanBeGone n whole × (state ≡ forget_first n whole)

-- the image is a journal under the name of compacted ones, of just these blocks, and gives the state
pub record IsMoved (written : List (List ℕ)) (state : State) (image : List ℕ) : Type 0 where
  pub blocks : HasBlocks (compacted_name ∷ []) written image
  pub gives : GivesState image state

-- or it is not finished, so that a later compaction takes it
abbrev pub IsUnfinishedOrMoved : List (List ℕ) → State → List ℕ → Type 0
IsUnfinishedOrMoved written state image = IsUnfinished image ⊎ IsMoved written state image

-- ---- the journal

-- These blocks were shown behind those before, and then a gate that is shut; or a creation that was not finished.
abbrev pub ShowsGain : List (List ℕ) → List (List ℕ) → List Shown → Type 0
ShowsGain before more shown = ((more ≡ []) × SeesHead IsTornCreation shown)
    ⊎ (SeesHead (HasHeader journal_names) shown × AreShown shown (end_of before) more × ShowsShut (end_of (before ++ more)) shown)

-- The file was shown to be no journal; or these blocks behind those before, and then a bad one, in the state that those that
-- were written and these lead to.
abbrev pub ShowsStop : List (List ℕ) → List (List ℕ) → ℕ → List Shown → Type 0
ShowsStop before written at shown = ((at ≡ 0) × SeesHead (IsForeign journal_names) shown)
    ⊎ ((more : List (List ℕ)) × (state : State) × Says (written ++ more) state × (at ≡ end_of (before ++ more)) × AreShown shown (end_of before) more × SeesBadBlock at state shown)

-- The same of an image; and where its own blocks up to there say a state it is damaged there.
abbrev pub StopsAt : List (List ℕ) → List (List ℕ) → ℕ → List ℕ → Type 0
StopsAt before written at image = ((at ≡ 0) × IsForeign journal_names image)
    ⊎ ((more : List (List ℕ)) × (state : State) × Says (written ++ more) state × (at ≡ end_of (before ++ more)) × BeginsWith (before ++ more) image × IsBadBlock (drop at image) state × ((whole : State) → Says (before ++ more) whole → IsDamagedAt image at))

-- ---- the file that is written

-- it was taken, and a crash at any moment since leaves it unfinished
abbrev pub StaysUnfinished : Store → Store → Type 0
StaysUnfinished into into' = IsUnfinished into.reads × Always IsUnfinished (settled into) into'

-- why it was not begun, and what it is then; where the journal was not read it is as it was
abbrev pub NotBegun : Store → Store → CompactionFault → Type 0
NotBegun into into' (NotRead fault) = into' ≡ into
NotBegun into into' NotEmpty = into.told ≡ true → (IsUnfinished into.reads → ⊥) × (into' ≡ settled into)
NotBegun into into' WriteFailed = into.told ≡ true → LeavesOthers into into' × (IsUnfinished into.reads → (into' ≡ into) ⊎ Always IsUnfinished (settled into) into')
NotBegun into into' Memory = into.told ≡ true → StaysUnfinished into into'

module _ {D : Type 0} (G : Ghosts D) where
  -- These are all blocks of the journal behind those before, each once and in their order: where its disk is told and begins
  -- with those, and where it tells what it shows.
  pub record Gains (before more : List (List ℕ)) (old new : D) : Type 0 where
    pub told : (G.store old).told ≡ true → HasFront before (G.store old).reads → StandsFor journal_names (before ++ more) (G.store old).reads
    pub shows : ShowsMore (G.shown old) (G.shown new) (ShowsGain before more)

  -- these are all that it had as it was read
  pub record IsReadAsItStood (passed : List (List ℕ)) (old new : D) : Type 0 where
    pub told : (G.store old).told ≡ true → StandsFor journal_names passed (G.store old).reads
    pub shows : ShowsMore (G.shown old) (G.shown new) (ShowsGain [] passed)

  -- behind blocks of it there is a bad one
  pub record Stops (before written : List (List ℕ)) (old new : D) (at : ℕ) : Type 0 where
    pub told : (G.store old).told ≡ true → HasFront before (G.store old).reads → StopsAt before written at (G.store old).reads
    pub shows : ShowsMore (G.shown old) (G.shown new) (ShowsStop before written at)

  -- Why no more was written, where these blocks were passed and those written; the file stays unfinished.
  abbrev pub StopsBeside : List (List ℕ) → List (List ℕ) → D → D → Store → Store → CompactionFault → Type 0
  StopsBeside passed written old new into into' (NotRead (journal.Damaged at)) = StaysUnfinished into into' × Stops passed written old new at
  StopsBeside passed written old new into into' (NotRead journal.DiskFailed) = StaysUnfinished into into'
  StopsBeside passed written old new into into' (NotRead journal.Memory) = StaysUnfinished into into'
  StopsBeside passed written old new into into' NotEmpty = ⊥
  StopsBeside passed written old new into into' WriteFailed = StaysUnfinished into into'
  StopsBeside passed written old new into into' Memory = StaysUnfinished into into'

  -- All blocks of the journal were passed, and the file is finished: at any moment it was unfinished or the whole journal of
  -- the state, and is that now. The line tells the state.
  pub record Finishes (keep : ℕ) (passed written : List (List ℕ)) (last last' : D) (into into' : Store) (line line' : List ℕ) : Type 0 where
    pub more : List (List ℕ)
    pub gains : Gains passed more last last'
    pub state : State
    pub moves : Moves keep (passed ++ more) (written ++ more) state
    pub moments : IsUnfinished into.reads × Always (IsUnfinishedOrMoved (written ++ more) state) (settled into) into' × EachImage (IsMoved (written ++ more) state) into'.now
    pub line_is : line' ≡ line ++ compact_line state

  -- Where a write failed: the last may have left the file whole.
  pub record FailsLast (keep : ℕ) (passed written : List (List ℕ)) (last last' : D) (into into' : Store) : Type 0 where
    pub more : List (List ℕ)
    pub gains : Gains passed more last last'
    pub state : State
    pub moves : Moves keep (passed ++ more) (written ++ more) state
    pub moments : IsUnfinished into.reads × Always (IsUnfinishedOrMoved (written ++ more) state) (settled into) into'

  abbrev pub EndsBeside : ℕ → List (List ℕ) → List (List ℕ) → D → D → Store → Store → List ℕ → List ℕ → Result Unit CompactionFault → Type 0
  EndsBeside keep passed written last last' into into' line line' (Ok _) = Finishes keep passed written last last' into into' line line'
  EndsBeside keep passed written last last' into into' line line' (Err (NotRead fault)) = StopsBeside passed written last last' into into' (NotRead fault)
  EndsBeside keep passed written last last' into into' line line' (Err NotEmpty) = ⊥
  EndsBeside keep passed written last last' into into' line line' (Err WriteFailed) = StaysUnfinished into into' ⊎ FailsLast keep passed written last last' into into'
  EndsBeside keep passed written last last' into into' line line' (Err Memory) = StaysUnfinished into into'

module _ {D : Type 0} {G : Ghosts D} where
  abbrev pub disk_beside : Beside D G → D
  disk_beside b = disk_written b.file

  abbrev pub store_beside : Beside D G → Store
  store_beside b = store_written b.file

  abbrev pub faults_beside : Beside D G → ℕ
  faults_beside b = faults_written b.file

  -- whether a write failed
  abbrev pub is_stuck : Beside D G → Bool
  is_stuck b = has_failed b.file

  -- These blocks of the journal were passed, and these were written since `into` was what is known of the file's disk, which
  -- is told.
  pub record Stands (keep : ℕ) (passed written : List (List ℕ)) (into : Store) (b : Beside D G) : Type 0 where
    pub moves : Moves keep passed written b.core.state
    pub gate : b.gate ≡ end_of passed
    pub adds : Adds b.file written
    pub unfinished : StaysUnfinished into (store_beside b)

  -- And those that were passed are the first of the journal, whose disk was `from` at first and is `now`.
  pub record IsUnderWay (keep : ℕ) (passed written : List (List ℕ)) (from : D) (into : Store) (now : D) (b : Beside D G) : Type 0 where
    pub stands : Stands keep passed written into b
    pub told : (G.store from).told ≡ true → HasFront passed (G.store from).reads
    pub shows : ShowsMore (G.shown from) (G.shown now) (λ shown. AreShown shown (end_of []) passed)
    pub unwritten : G.store now ≡ G.store from

  -- The journal was read as it stood, and what is kept of it was written; or why not.
  abbrev pub BeginsBeside : ℕ → D → D → D → Result (Beside D G) (D × CompactionFault) → Type 0
  BeginsBeside keep from now into (Ok b) = (G.store into).told ≡ true → (passed : List (List ℕ)) × (written : List (List ℕ)) × IsUnderWay keep passed written from (G.store into) now b × IsReadAsItStood G passed from now
  BeginsBeside keep from now into (Err (into', NotRead (journal.Damaged at))) = NotBegun (G.store into) (G.store into') (NotRead (journal.Damaged at)) × ((G.store from).told ≡ true → IsDamagedAt (G.store from).reads at) × ShowsMore (G.shown from) (G.shown now) (ShowsStop [] [] at)
  BeginsBeside keep from now into (Err (into', NotRead journal.DiskFailed)) = NotBegun (G.store into) (G.store into') (NotRead journal.DiskFailed)
  BeginsBeside keep from now into (Err (into', NotRead journal.Memory)) = NotBegun (G.store into) (G.store into') (NotRead journal.Memory)
  BeginsBeside keep from now into (Err (into', NotEmpty)) = NotBegun (G.store into) (G.store into') NotEmpty
  BeginsBeside keep from now into (Err (into', WriteFailed)) = NotBegun (G.store into) (G.store into') WriteFailed
  BeginsBeside keep from now into (Err (into', Memory)) = NotBegun (G.store into) (G.store into') Memory

  -- The blocks that the journal gained were written behind, or why not.
  abbrev pub Follows : ℕ → List (List ℕ) → List (List ℕ) → D → Store → D → D → Beside D G → Result Unit CompactionFault → Type 0
  Follows keep passed written from into old new b (Ok _) =
      (more : List (List ℕ)) × IsUnderWay keep (passed ++ more) (written ++ more) from into new b × Gains G passed more old new
  Follows keep passed written from into old new b (Err fault) = StopsBeside G passed written old new into (store_beside b) fault
