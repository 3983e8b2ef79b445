-- How far a journal is that is written anew beside who writes it. Only private clauses cite this file.
use Rattle.std.specs.Prelude.{◌≡◌, ℕ, List, Option, None, Some, Result, Ok, Err, true}
use Rattle.compaction.specs.Beside.{IsUnderWay, disk_beside, faults_beside}
use Rattle.compaction.specs.declared.beside.Beside.{Beside}
use Rattle.compaction.specs.declared.fault.CompactionFault.{CompactionFault}
use Rattle.link_door.specs.declared.world.World.{Ghosts as WorldGhosts}
use Rattle.rtb_disk.specs.Stores.{Store}
use Rattle.rtb_disk.specs.declared.disk.Disk.{Ghosts as DiskGhosts}
use Rattle.rtb_num.specs.declared.streams.Failed.{Failed}
use Rattle.run_commands.specs.Beside.{GivesFreed, GivesNoFreed, IsBroken, IsEnded, Waits}
use Rattle.run_commands.specs.Compact.{EndsCompacted}

-- some blocks were passed, and the file has what stands for them
abbrev pub IsOn : {Disk : Type 0} {G : DiskGhosts Disk} → ℕ → Disk → Store → Disk → Beside Disk G → Type 0
IsOn keep first into now b = (passed : List (List ℕ)) × (written : List (List ℕ)) × IsUnderWay keep passed written first into now b

-- the file is begun on the disk `into`, the journal is on the disk that was `first`, and no call of them failed
pub record IsStarted {Disk : Type 0} {G : DiskGhosts Disk} (keep : ℕ) (first now into : Disk) (b : Beside Disk G) : Type 0 where
  pub way : (G.store into).told ≡ true → IsOn keep first (G.store into) now b
  pub unwritten : G.store now ≡ G.store first
  pub read : G.faults now ≡ G.faults first
  pub write : faults_beside b ≡ G.faults into

module _ {World Door Disk Link : Type 0} (W : WorldGhosts World Door Disk Link) {G : DiskGhosts Disk} (path : List ℕ) (keep : ℕ) (first into : Disk) (w w' : World) (from' : Disk) (b' : Beside Disk G) where
  -- the journal was followed as far as it was then, and the world asked for it
  abbrev pub Turned : Result (Result (Option Disk) Failed) CompactionFault → Type 0
  Turned (Ok (Ok None)) = Waits W w w' × IsStarted keep first from' into b'
  Turned (Ok (Ok (Some disk))) = GivesFreed W path w w' disk × IsStarted keep first from' into b'
  Turned (Ok (Err _)) = GivesNoFreed W path w w' × IsStarted keep first from' into b'
  Turned (Err fault) = Waits W w w' × IsBroken G keep first from' into (disk_beside b') fault

  -- the same until it gave the journal, or failed
  abbrev pub Followed : Result (Option Disk) CompactionFault → Type 0
  Followed (Ok (Some disk)) = GivesFreed W path w w' disk × IsStarted keep first from' into b'
  Followed (Ok None) = GivesNoFreed W path w w' × IsStarted keep first from' into b'
  Followed (Err fault) = Waits W w w' × IsBroken G keep first from' into (disk_beside b') fault

-- the file was finished, or not, by the disk that the world gave at last
pub record IsFinished {Disk : Type 0} (G : DiskGhosts Disk) (keep : ℕ) (first from' into into' given : Disk) (last : Option Disk) (written written' : Option (List ℕ)) (code : ℕ) : Type 0 where
  pub given' : Disk
  pub last_is : last ≡ Some given'
  pub line : List ℕ
  pub done : Result Unit CompactionFault
  pub ended : IsEnded G keep first from' into into' given given' line done
  pub told : EndsCompacted done line written written' code
