-- The command `serve`.
use Rattle.std.specs.Prelude.{◌≡◌, ◌≢◌, ◌⊎◌, ℕ, min, max, All, IsSome, List, [], ◌++◌, map, Option, None, Some, true, codes, decimal}
use Rattle.std.specs.Io.KnownBytes.{Appends}
use Rattle.address_keys.specs.declared.keys.Keys.{Keys}
use Rattle.journal_file.specs.declared.faults.JournalFault.{JournalFault}
use Rattle.journal_file.specs.declared.faults.JournalFault.TheVariants as journal
use Rattle.link_door.specs.declared.door.Door.{Ghosts as DoorGhosts}
use Rattle.link_door.specs.declared.link.Link.{Ghosts as LinkGhosts}
use Rattle.link_door.specs.declared.world.World.{Ghosts as WorldGhosts}
use Rattle.link_door.specs.declared.world.WorldFault.{WorldFault}
use Rattle.link_door.specs.declared.world.WorldFault.TheVariants as world
use Rattle.plain_exchange.specs.declared.changes.Effect.{Effect}
use Rattle.recovery.specs.Openings.{IsUnwritten}
use Rattle.recovery.specs.Texts.{HasText}
use Rattle.rtb_base.specs.Faults.{Rose}
use Rattle.rtb_disk.specs.Stores.{Always, Store, settled}
use Rattle.rtb_disk.specs.declared.disk.Disk.{Ghosts as DiskGhosts}
use Rattle.rtb_io.specs.Fronts.{AppendsFront}
use Rattle.rtb_io.specs.Statuses.{code_of}
use Rattle.rtb_io.specs.declared.status.Status.TheVariants as status
use Rattle.run_commands.specs.Endings.{EndsBy}
use Rattle.run_commands.specs.Given.{GivesDoors, GivesJournal, GivesKeys, GivesNoDoors, GivesNoJournal, GivesNoKeys}
use Rattle.run_commands.specs.Journals.{EndsAt, HasCause}
use Rattle.run_commands.specs.Served.{IsServed, IsWritten}
use Rattle.run_commands.specs.Tokens.{IsByToken}
use Rattle.run_words.specs.declared.serve.ServeOptions.{ServeOptions}
use Rattle.worker_pool.specs.Pools.{EndsAs, History, IsUntouched, LeaveAs}
use Rattle.worker_pool.specs.declared.pool.PoolEnd.{PoolEnd}
use Rattle.worker_pool.specs.declared.pool.PoolEnd.TheVariants as ending

-- how many workers serve, each with a door of its own
abbrev pub workers_of : ServeOptions → ℕ
workers_of options = min 64 (max 1 options.workers)

-- the line that says that the exchange is served
abbrev pub first_line : ServeOptions → List ℕ
first_line options = codes "serving with " ++ decimal (workers_of options) ++ codes " workers\n"

-- how a run ends where the world gives no doors
abbrev pub EndsWithoutDoors : WorldFault → Option (List ℕ) → Option (List ℕ) → ℕ → Type 0
EndsWithoutDoors world.Failed written written' code = EndsBy status.NoDoor written written' code
EndsWithoutDoors world.Memory written written' code = EndsBy status.Memory written written' code

-- how it ends behind the serving of doors
abbrev pub EndsBehind : PoolEnd → Option (List ℕ) → Option (List ℕ) → ℕ → Type 0
EndsBehind ending.Served written written' code = (code ≡ code_of status.Done) × (written' ≡ written)
EndsBehind ending.DoorFailed written written' code = EndsBy status.DoorFailed written written' code
EndsBehind ending.LastWriteFailed written written' code = EndsBy status.LastWriteFailed written written' code
EndsBehind ending.Memory written written' code = EndsBy status.Memory written written' code

-- The disk says the effects that it said, as it was handed out or at every moment behind the first sync.
abbrev pub SaysTheSame : Store → Store → Type 0
SaysTheSame store store' = store.told ≡ true → (effects : List Effect) → HasText store.reads effects
    → (store' ≡ store) ⊎ Always (λ image. HasText image effects) (settled store) store'

-- The journal on the disk was not opened. Where no call of the disk failed and memory was not short, no byte was
-- written.
pub record IsRefused {Disk : Type 0} (G : DiskGhosts Disk) (disk disk' : Disk) (fault : JournalFault) : Type 0 where
  pub same : SaysTheSame (G.store disk) (G.store disk')
  pub unwritten : fault ≢ journal.DiskFailed → fault ≢ journal.Memory → IsUnwritten (G.store disk) (G.store disk')
  pub cause : HasCause (G.store disk) (G.faults disk) (G.faults disk') fault

module _ {Disk Door Link : Type 0} (G : DiskGhosts Disk) (H : DoorGhosts Door Link) (K : LinkGhosts Link) (options : ServeOptions) (keys : Keys) where
  -- the exchange was opened, and nothing came
  pub record IsIdle (disk disk' : Disk) (past : History) : Type 0 where
    pub served : IsServed G H K options keys disk disk' [] [] past
    pub untouched : IsUntouched past

  -- The exchange was opened, and the doors were served behind the first line. Where addresses are signed, the messages that
  -- settle sales have the tokens of these. Where no door failed
  -- no link is left, and where one did none is left at the others. Where the last write was done too, all effects are written;
  -- where it was not done, the disk's count of failed calls rose.
  pub record IsRun (disk disk' : Disk) (doors doors' : List Door) (past : History) (written written' : Option (List ℕ)) (code : ℕ) : Type 0 where
    pub served : IsServed G H K options keys disk disk' doors doors' past
    pub tokens : IsSome keys.key → All (All (IsByToken keys)) served.answers.alls
    pub end : PoolEnd
    pub why : EndsAs past (map H.faults doors) (map H.faults doors') end
    pub left : LeaveAs H.faults H.held doors doors' end
    pub last : end ≡ ending.Served → IsWritten (G.store disk') past
    pub broke : end ≡ ending.LastWriteFailed → Rose (G.faults disk) (G.faults disk')
    pub announced : Option (List ℕ)
    pub line : Appends written announced (first_line options)
    pub ends : EndsBehind end announced written' code

-- With the disk, whose journal was opened, and the doors: the first line could not be written, and nothing was served;
-- or it was, and they were served.
pub data Announces {Disk Door Link : Type 0} (G : DiskGhosts Disk) (H : DoorGhosts Door Link) (K : LinkGhosts Link) (options : ServeOptions) (keys : Keys)
    (disk disk' : Disk) (doors doors' : List Door) (past : History) (written written' : Option (List ℕ)) (code : ℕ) : Type 0 where
  unannounced : IsIdle G H K options keys disk disk' past → doors' ≡ doors → code ≡ code_of status.NotWritten → AppendsFront written written' (first_line options)
      → Announces G H K options keys disk disk' doors doors' past written written' code
  served : IsRun G H K options keys disk disk' doors doors' past written written' code → Announces G H K options keys disk disk' doors doors' past written written' code

-- What the command comes to with these keys, from the world w to the world w'. The world gave no disk for the path of the
-- journal, which where it has to be there has something in it; or the journal on it was not opened; or the world gave no
-- doors at the address, one for each worker, with the patience of the options; or it did. `doors'` and `back` are the doors
-- and the disk that come back, and `past` is the history of the exchange, where it was opened.
pub data ServesWith {World Disk Door Link : Type 0} (W : WorldGhosts World Door Disk Link) (G : DiskGhosts Disk) (H : DoorGhosts Door Link) (K : LinkGhosts Link) (options : ServeOptions) (keys : Keys)
    (w w' : World) (written written' : Option (List ℕ)) (code : ℕ) (doors' : List Door) (back : Option Disk) (past : Option History) : Type 0 where
  no_disk : GivesNoJournal W options.existing options.journal w w' → doors' ≡ [] → back ≡ None → past ≡ None → EndsBy status.NoDisk written written' code
      → ServesWith W G H K options keys w w' written written' code doors' back past
  not_opened : (disk disk' : Disk) → GivesJournal W G options.existing options.journal w w' disk → (fault : JournalFault) → IsRefused G disk disk' fault
      → doors' ≡ [] → back ≡ Some disk' → past ≡ None → EndsAt fault written written' code
      → ServesWith W G H K options keys w w' written written' code doors' back past
  no_doors : (disk disk' : Disk) (history : History) (between : World) → GivesJournal W G options.existing options.journal w between disk → (fault : WorldFault) → GivesNoDoors W options.listen (workers_of options) options.patience between w' fault
      → IsIdle G H K options keys disk disk' history → doors' ≡ [] → back ≡ Some disk' → past ≡ Some history → EndsWithoutDoors fault written written' code
      → ServesWith W G H K options keys w w' written written' code doors' back past
  opened : (disk disk' : Disk) (history : History) (between : World) (doors : List Door) → GivesJournal W G options.existing options.journal w between disk → GivesDoors W options.listen (workers_of options) options.patience between w' doors
      → Announces G H K options keys disk disk' doors doors' history written written' code → back ≡ Some disk' → past ≡ Some history
      → ServesWith W G H K options keys w w' written written' code doors' back past

-- What the command comes to. Memory was short for the first line, and nothing was asked for; or a key that is named was not
-- given, or its text is none; or the keys were given, and then all that is asked for with them.
pub data Serves {World Disk Door Link : Type 0} (W : WorldGhosts World Door Disk Link) (G : DiskGhosts Disk) (H : DoorGhosts Door Link) (K : LinkGhosts Link) (options : ServeOptions)
    (w w' : World) (written written' : Option (List ℕ)) (code : ℕ) (doors' : List Door) (back : Option Disk) (past : Option History) : Type 0 where
  starved : w' ≡ w → doors' ≡ [] → back ≡ None → past ≡ None → EndsBy status.Memory written written' code
      → Serves W G H K options w w' written written' code doors' back past
  no_key : GivesNoKeys W options.key options.former_key w w' → doors' ≡ [] → back ≡ None → past ≡ None → EndsBy status.NoKey written written' code
      → Serves W G H K options w w' written written' code doors' back past
  keyed : (keys : Keys) (between : World) → GivesKeys W options.key options.former_key w between keys
      → ServesWith W G H K options keys between w' written written' code doors' back past → Serves W G H K options w w' written written' code doors' back past
