-- The command `compact`.
use Rattle.std.specs.Prelude.{◌≡◌, ℕ, List, [], ◌∷◌, ◌++◌, Option, None, Some, Result, Ok, Err}
use Rattle.compaction.specs.Writing.{Compacts}
use Rattle.compaction.specs.declared.fault.CompactionFault.{CompactionFault}
use Rattle.compaction.specs.declared.fault.CompactionFault.TheVariants.{Memory, NotEmpty, NotRead, WriteFailed}
use Rattle.journal_file.specs.declared.faults.JournalFault.TheVariants as journal
use Rattle.link_door.specs.Worlds.{AsksAtMost, HandsOut}
use Rattle.link_door.specs.declared.asked.Asked.{Asked}
use Rattle.link_door.specs.declared.asked.Asked.TheVariants as asked_for
use Rattle.recovery.specs.Openings.{IsUnwritten}
use Rattle.rtb_base.specs.Faults.{RisesOnlyWhere, Rose}
use Rattle.rtb_disk.specs.Stores.{Store}
use Rattle.rtb_disk.specs.declared.disk.Disk.{Ghosts}
use Rattle.rtb_io.specs.declared.status.Status.TheVariants as status
use Rattle.run_commands.specs.Endings.{Ends, EndsBy}
use Rattle.run_commands.specs.Given.{IsThere}
use Rattle.run_commands.specs.Journals.{EndsAt}
use Rattle.run_words.specs.declared.compact.CompactOptions.{CompactOptions}

-- how a run ends behind a compaction, with the line that tells the exchange that was written
abbrev pub EndsCompacted : Result Unit CompactionFault → List ℕ → Option (List ℕ) → Option (List ℕ) → ℕ → Type 0
EndsCompacted (Ok _) line written written' code = Ends status.Done line written written' code
EndsCompacted (Err (NotRead fault)) line written written' code = EndsAt fault written written' code
EndsCompacted (Err NotEmpty) line written written' code = EndsBy status.NotEmpty written written' code
EndsCompacted (Err WriteFailed) line written written' code = EndsBy status.WriteFailed written written' code
EndsCompacted (Err Memory) line written written' code = EndsBy status.Memory written written' code

-- What is done with the disks of two files, with their counts of faults before and after: the journal on the first is
-- compacted into the second. Nothing is written to the first. Each count rises only where the run ends for it.
pub record CompactsInto {Disk : Type 0} (G : Ghosts Disk) (keep : ℕ) (from from' into into' : Disk) (written written' : Option (List ℕ)) (code : ℕ) : Type 0 where
  pub done : Result Unit CompactionFault
  pub line : List ℕ
  pub compacts : Compacts keep (G.store from) (G.store into) (G.store into') [] line done
  pub unwritten : IsUnwritten (G.store from) (G.store from')
  pub read_cause : RisesOnlyWhere (done ≡ Err (NotRead journal.DiskFailed)) (G.faults from) (G.faults from')
  pub write_cause : RisesOnlyWhere (done ≡ Err WriteFailed) (G.faults into) (G.faults into')
  pub ends : EndsCompacted done line written written' code

-- What the command comes to: the world gave no disk for the journal, which has to be there with something in it, or none
-- for the file, or both. They are asked for by their paths, the journal first. `left` are the disks that the world has, `count` is its count of faults, and `back`
-- and `other` are the disks of the file and of the journal that are given back.
pub data RunsCompact {Disk : Type 0} (G : Ghosts Disk) (options : CompactOptions) (asked asked' : List Asked) (left left' : Option (List Disk)) (count count' : ℕ) (written written' : Option (List ℕ)) (code : ℕ) (back other : Option Disk) : Type 0 where
  no_journal : AsksAtMost asked asked' (asked_for.DiskThere options.journal) → left' ≡ left → Rose count count' → back ≡ None → other ≡ None → EndsBy status.NoDisk written written' code
      → RunsCompact G options asked asked' left left' count count' written written' code back other
  no_file : (from : Disk) → AsksAtMost (asked ++ asked_for.DiskThere options.journal ∷ []) asked' (asked_for.Disk options.into) → HandsOut left left' (from ∷ []) → Rose count count' → back ≡ None → other ≡ Some from → EndsBy status.NoDisk written written' code
      → RunsCompact G options asked asked' left left' count count' written written' code back other
  compacted : (from from' into into' : Disk) → asked' ≡ asked ++ asked_for.DiskThere options.journal ∷ asked_for.Disk options.into ∷ [] → HandsOut left left' (from ∷ into ∷ []) → count' ≡ count → back ≡ Some into' → other ≡ Some from' → IsThere (G.store from)
      → CompactsInto G options.keep from from' into into' written written' code → RunsCompact G options asked asked' left left' count count' written written' code back other
