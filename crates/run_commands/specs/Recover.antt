-- The command `recover`.
use Rattle.std.specs.Prelude.{◌≡◌, ℕ, List, [], ◌∷◌, ◌++◌, Option, None, Some, true}
use Rattle.journal_file.specs.declared.faults.JournalFault.{JournalFault}
use Rattle.link_door.specs.Worlds.{AsksAtMost, HandsOut}
use Rattle.link_door.specs.declared.asked.Asked.{Asked}
use Rattle.link_door.specs.declared.asked.Asked.TheVariants as asked_for
use Rattle.plain_exchange.specs.State.{State}
use Rattle.recovery.specs.Counts.{recover_text}
use Rattle.recovery.specs.Openings.{IsUnwritten}
use Rattle.recovery.specs.Texts.{GivesState}
use Rattle.rtb_base.specs.Faults.{Rose}
use Rattle.rtb_disk.specs.Stores.{Store}
use Rattle.rtb_disk.specs.declared.disk.Disk.{Ghosts}
use Rattle.rtb_io.specs.declared.status.Status.TheVariants as status
use Rattle.run_commands.specs.Endings.{Ends, EndsBy}
use Rattle.run_commands.specs.Journals.{EndsAt, HasCause}

-- the line is that of the state that the disk as it reads gives
abbrev pub TellsState : Store → List ℕ → Type 0
TellsState store line = store.told ≡ true → (state : State) × GivesState store.reads state × (line ≡ recover_text state)

-- What is told of the journal on a disk, with the disk's count of faults before and after: the counts of its
-- exchange, or its fault.
pub data Tells (store : Store) (faults faults' : ℕ) (written written' : Option (List ℕ)) (code : ℕ) : Type 0 where
  counted : (line : List ℕ) → TellsState store line → faults' ≡ faults → Ends status.Done line written written' code → Tells store faults faults' written written' code
  faulty : (fault : JournalFault) → HasCause store faults faults' fault → EndsAt fault written written' code → Tells store faults faults' written written' code

-- What the command comes to: the world gave no disk, or what is on the disk is told. The disk is asked for by the path, to be read alone.
-- `left` are the disks that the world has, `count` is its count of faults, and `back` is the disk that is given back.
pub data Recovers {Disk : Type 0} (G : Ghosts Disk) (path : List ℕ) (asked asked' : List Asked) (left left' : Option (List Disk)) (count count' : ℕ) (written written' : Option (List ℕ)) (code : ℕ) (back : Option Disk) : Type 0 where
  no_disk : AsksAtMost asked asked' (asked_for.DiskToRead path) → left' ≡ left → Rose count count' → back ≡ None → EndsBy status.NoDisk written written' code → Recovers G path asked asked' left left' count count' written written' code back
  read : (disk disk' : Disk) → asked' ≡ asked ++ asked_for.DiskToRead path ∷ [] → HandsOut left left' (disk ∷ []) → count' ≡ count → back ≡ Some disk' → IsUnwritten (G.store disk) (G.store disk')
      → Tells (G.store disk) (G.faults disk) (G.faults disk') written written' code → Recovers G path asked asked' left left' count count' written written' code back
