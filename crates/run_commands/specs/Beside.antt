-- The command `compact` beside who writes the journal.
use Rattle.std.specs.Prelude.{◌≡◌, ℕ, List, [], Option, None, Some, Result, Ok, Err, MatchBool, true, codes}
use Rattle.std.specs.Io.KnownBytes.{Appends}
use Rattle.compaction.specs.Beside.{BeginsBeside, EndsBeside, HasFront, Moves, StaysUnfinished, StopsBeside}
use Rattle.compaction.specs.Seen.{AreShown}
use Rattle.compaction.specs.declared.fault.CompactionFault.{CompactionFault}
use Rattle.compaction.specs.declared.fault.CompactionFault.TheVariants.{NotRead, WriteFailed}
use Rattle.journal_file.specs.Blocks.{end_of}
use Rattle.journal_file.specs.Shows.{ShowsMore}
use Rattle.journal_file.specs.declared.faults.JournalFault.TheVariants as journal
use Rattle.link_door.specs.Worlds.{HandsOut}
use Rattle.link_door.specs.declared.asked.Asked.TheVariants as asked_for
use Rattle.link_door.specs.declared.world.World.{Ghosts as WorldGhosts}
use Rattle.plain_exchange.specs.State.{State}
use Rattle.rtb_base.specs.Faults.{RisesOnlyWhere}
use Rattle.rtb_disk.specs.declared.disk.Disk.{Ghosts as DiskGhosts}
use Rattle.rtb_io.specs.Fronts.{AppendsFront}
use Rattle.rtb_io.specs.Statuses.{code_of}
use Rattle.rtb_io.specs.declared.status.Status.TheVariants as status
use Rattle.run_commands.specs.Compact.{EndsCompacted, RunsCompact}
use Rattle.run_commands.specs.Endings.{EndsBy}
use Rattle.run_commands.specs.Given.{Gives, GivesDiskToRead, GivesNoDiskToRead, GivesNone}
use Rattle.run_words.specs.declared.compact.CompactOptions.{CompactOptions}

-- the line that says that what is kept is written, and that each block which comes is written behind
abbrev pub beside_line : List ℕ
beside_line = codes "following\n"

-- how many milliseconds the journal is waited for between two looks for more blocks
abbrev pub turn : ℕ
turn = 50

-- ---- the world

module _ {World Door Disk Link : Type 0} (W : WorldGhosts World Door Disk Link) where
  -- it was asked again and again for what another has, and handed out nothing
  pub record Waits (w w' : World) : Type 0 where
    pub asked : W.asked w' ≡ W.asked w
    pub disks : HandsOut (W.disks_left w) (W.disks_left w') []
    pub doors : W.doors_left w' ≡ W.doors_left w
    pub keys : W.keys_left w' ≡ W.keys_left w
    pub faults : W.faults w' ≡ W.faults w

  -- behind that it gave this disk of the journal, which nobody else writes then
  pub record GivesFreed (path : List ℕ) (w w' : World) (disk : Disk) : Type 0 where
    pub between : World
    pub waits : Waits w between
    pub gives : Gives W (asked_for.DiskWhenFree path turn) between w' disk

  -- or failed
  pub record GivesNoFreed (path : List ℕ) (w w' : World) : Type 0 where
    pub between : World
    pub waits : Waits w between
    pub none : GivesNone W (asked_for.DiskWhenFree path turn) between w'

-- ---- the disks of both files, which were `from` and `into` when the world gave them

module _ {Disk : Type 0} (G : DiskGhosts Disk) where
  -- These blocks of the journal were passed by the time that its disk was `now`, and these stand for them in the file.
  pub record ArePassed (keep : ℕ) (from now : Disk) (passed written : List (List ℕ)) : Type 0 where
    pub state : State
    pub moves : Moves keep passed written state
    pub told : (G.store from).told ≡ true → HasFront passed (G.store from).reads
    pub shows : ShowsMore (G.shown from) (G.shown now) (λ shown. AreShown shown (end_of []) passed)

  -- The file was not begun, or not written to the end of what is kept.
  pub record IsNotBegun (keep : ℕ) (from from' into into' : Disk) (fault : CompactionFault) : Type 0 where
    pub begins : BeginsBeside {G = G} keep from from' into (Err (into', fault))
    pub unwritten : G.store from' ≡ G.store from
    pub read_cause : RisesOnlyWhere (fault ≡ NotRead journal.DiskFailed) (G.faults from) (G.faults from')
    pub write_cause : RisesOnlyWhere (fault ≡ WriteFailed) (G.faults into) (G.faults into')

  -- It was begun, and is left unfinished, though no call of a disk failed.
  pub record IsLeft (from from' into into' : Disk) : Type 0 where
    pub file : (G.store into).told ≡ true → StaysUnfinished (G.store into) (G.store into')
    pub unwritten : G.store from' ≡ G.store from
    pub read : G.faults from' ≡ G.faults from
    pub write : G.faults into' ≡ G.faults into

  -- It was begun, and what came behind was not written: the disk of the journal was `between` before the last look for more.
  pub record IsBroken (keep : ℕ) (from from' into into' : Disk) (fault : CompactionFault) : Type 0 where
    pub stops : (G.store into).told ≡ true → (passed : List (List ℕ)) × (written : List (List ℕ)) × (between : Disk) × ArePassed keep from between passed written
        × StopsBeside G passed written between from' (G.store into) (G.store into') fault
    pub unwritten : G.store from' ≡ G.store from
    pub read_cause : RisesOnlyWhere (fault ≡ NotRead journal.DiskFailed) (G.faults from) (G.faults from')
    pub write_cause : RisesOnlyWhere (fault ≡ WriteFailed) (G.faults into) (G.faults into')

  -- The journal was taken as `last`, read to its end by that, and the file finished, or not. Nothing is written to the journal.
  pub record IsEnded (keep : ℕ) (from from' into into' last last' : Disk) (line : List ℕ) (done : Result Unit CompactionFault) : Type 0 where
    pub ends : (G.store into).told ≡ true → (passed : List (List ℕ)) × (written : List (List ℕ)) × ArePassed keep from from' passed written
        × EndsBeside G keep passed written last last' (G.store into) (G.store into') [] line done
    pub unwritten : G.store from' ≡ G.store from
    pub last_unwritten : G.store last' ≡ G.store last
    pub read : G.faults from' ≡ G.faults from
    pub read_cause : RisesOnlyWhere (done ≡ Err (NotRead journal.DiskFailed)) (G.faults last) (G.faults last')
    pub write_cause : RisesOnlyWhere (done ≡ Err WriteFailed) (G.faults into) (G.faults into')

module _ {World Door Disk Link : Type 0} (W : WorldGhosts World Door Disk Link) (G : DiskGhosts Disk) (options : CompactOptions) where
  -- What becomes of both where what is kept is written, from the world w to the world w'. The line could not be told; or it was, and
  -- the journal was followed: that came to a fault, or the world failed, or it gave the journal once nobody else wrote it.
  pub data EndsBehind (w w' : World) (from from' into into' : Disk) (written written' : Option (List ℕ)) (code : ℕ) (last : Option Disk) : Type 0 where
    untold : w' ≡ w → last ≡ None → code ≡ code_of status.NotWritten → AppendsFront written written' beside_line → IsLeft G from from' into into'
        → EndsBehind w w' from from' into into' written written' code last
    broken : (announced : Option (List ℕ)) → Appends written announced beside_line → Waits W w w' → last ≡ None → (fault : CompactionFault) → IsBroken G options.keep from from' into into' fault
        → EndsCompacted (Err fault) [] announced written' code → EndsBehind w w' from from' into into' written written' code last
    not_freed : (announced : Option (List ℕ)) → Appends written announced beside_line → GivesNoFreed W options.journal w w' → last ≡ None → IsLeft G from from' into into'
        → EndsBy status.NoDisk announced written' code → EndsBehind w w' from from' into into' written written' code last
    freed : (announced : Option (List ℕ)) → Appends written announced beside_line → (given given' : Disk) → GivesFreed W options.journal w w' given → last ≡ Some given' → (line : List ℕ) (done : Result Unit CompactionFault)
        → IsEnded G options.keep from from' into into' given given' line done → EndsCompacted done line announced written' code → EndsBehind w w' from from' into into' written written' code last

  -- What the command comes to, from the world w to the world w'. It gave no disk for the journal, which is read alone at first,
  -- or none for the file; or both, and the file was not begun; or it was. `back`, `other` and `last` are the disks that come
  -- back: that of the file, that by which the journal was read, and that by which it was read to its end.
  pub data RunsBeside (w w' : World) (written written' : Option (List ℕ)) (code : ℕ) (back other last : Option Disk) : Type 0 where
    no_journal : GivesNoDiskToRead W options.journal w w' → back ≡ None → other ≡ None → last ≡ None → EndsBy status.NoDisk written written' code → RunsBeside w w' written written' code back other last
    no_file : (from : Disk) (between : World) → GivesDiskToRead W options.journal w between from → GivesNone W (asked_for.Disk options.into) between w' → back ≡ None → other ≡ Some from → last ≡ None
        → EndsBy status.NoDisk written written' code → RunsBeside w w' written written' code back other last
    not_begun : (from from' into into' : Disk) (between : World) → GivesDiskToRead W options.journal w between from → Gives W (asked_for.Disk options.into) between w' into → back ≡ Some into' → other ≡ Some from' → last ≡ None
        → (fault : CompactionFault) → IsNotBegun G options.keep from from' into into' fault → EndsCompacted (Err fault) [] written written' code → RunsBeside w w' written written' code back other last
    begun : (from from' into into' : Disk) (between opened : World) → GivesDiskToRead W options.journal w between from → Gives W (asked_for.Disk options.into) between opened into → back ≡ Some into' → other ≡ Some from'
        → EndsBehind opened w' from from' into into' written written' code last → RunsBeside w w' written written' code back other last

  -- What the command comes to in both forms: without the option nobody else has the journal, which is not taken once more.
  abbrev pub Compacts : World → World → Option (List ℕ) → Option (List ℕ) → ℕ → Option Disk → Option Disk → Option Disk → Type 0
  Compacts w w' written written' code back other last = MatchBool options.beside (RunsBeside w w' written written' code back other last)
      (RunsCompact G options (W.asked w) (W.asked w') (W.disks_left w) (W.disks_left w') (W.faults w) (W.faults w') written written' code back other × (last ≡ None))
