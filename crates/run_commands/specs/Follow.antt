-- The command `follow`.
use Rattle.std.specs.Prelude.{◌≡◌, ℕ, List, [], ◌∷◌, Option, None, Some, Result, Ok, Err, OnOk, codes}
use Rattle.std.specs.Io.KnownBytes.{Appends}
use Rattle.follower.specs.Doors.{LeavesNone, ServesReports}
use Rattle.follower.specs.Following.{IsWithin, count_in, disk_in, state_in}
use Rattle.follower.specs.declared.follower.Follower.{Follower}
use Rattle.link_door.specs.declared.door.Door.{Ghosts as DoorGhosts}
use Rattle.link_door.specs.declared.link.Link.{Ghosts as LinkGhosts}
use Rattle.link_door.specs.declared.world.World.{Ghosts as WorldGhosts}
use Rattle.link_door.specs.declared.world.WorldFault.{WorldFault}
use Rattle.plain_exchange.specs.State.{empty}
use Rattle.rtb_base.specs.Faults.{CountsErrors}
use Rattle.rtb_disk.specs.declared.disk.Disk.{Ghosts as DiskGhosts}
use Rattle.rtb_io.specs.Fronts.{AppendsFront}
use Rattle.rtb_io.specs.Statuses.{code_of}
use Rattle.rtb_io.specs.declared.status.Status.TheVariants as status
use Rattle.rtb_num.specs.declared.streams.Failed.{Failed}
use Rattle.run_commands.specs.Endings.{EndsBy}
use Rattle.run_commands.specs.Given.{GivesDiskToRead, GivesDoors, GivesNoDiskToRead, GivesNoDoors}
use Rattle.run_commands.specs.Serve.{EndsWithoutDoors}
use Rattle.run_words.specs.declared.follow.FollowOptions.{FollowOptions}

-- the line that says that reports are given
abbrev pub follow_line : List ℕ
follow_line = codes "following\n"

-- how many milliseconds a link waits for its peer
abbrev pub follow_patience : ℕ
follow_patience = 60000

-- how a run ends behind the serving of the door
abbrev pub EndsFollowed : Result Unit Failed → Option (List ℕ) → Option (List ℕ) → ℕ → Type 0
EndsFollowed (Ok _) written written' code = (code ≡ code_of status.Done) × (written' ≡ written)
EndsFollowed (Err _) written written' code = EndsBy status.DoorFailed written written' code

-- a follower of the journal on the disk that has read nothing
pub record IsNew {Disk : Type 0} (disk : Disk) (follower : Follower Disk) : Type 0 where
  pub disk_is : disk_in follower ≡ disk
  pub state : state_in follower ≡ empty
  pub count : count_in follower ≡ 0
  pub within : (image : List ℕ) → IsWithin image follower

module _ {Disk Door Link : Type 0} (G : DiskGhosts Disk) (H : DoorGhosts Door Link) (K : LinkGhosts Link) where
  -- The door was served behind the first line: its links one after the other, by a follower that had read nothing. No
  -- byte was written to the disk.
  pub record IsFollowed (disk disk' : Disk) (door door' : Door) (written written' : Option (List ℕ)) (code : ℕ) : Type 0 where
    pub before : Follower Disk
    pub after : Follower Disk
    pub new : IsNew disk before
    pub reports : ServesReports G K before (H.held door) after (H.held door')
    pub disk_is : disk' ≡ disk_in after
    pub unwritten : G.store disk' ≡ G.store disk
    pub done : Result Unit Failed
    pub all : OnOk done (LeavesNone (H.held door) (H.held door'))
    pub cause : CountsErrors (H.faults door) (H.faults door') done
    pub announced : Option (List ℕ)
    pub line : Appends written announced follow_line
    pub ends : EndsFollowed done announced written' code

  -- With the disk and the door: the first line could not be written, and nothing was served; or it was, and the door
  -- was served.
  pub data Reports (disk disk' : Disk) (door door' : Door) (written written' : Option (List ℕ)) (code : ℕ) : Type 0 where
    untold : disk' ≡ disk → door' ≡ door → code ≡ code_of status.NotWritten → AppendsFront written written' follow_line → Reports disk disk' door door' written written' code
    told : IsFollowed disk disk' door door' written written' code → Reports disk disk' door door' written written' code

-- What the command comes to, from the world w to the world w'. It gave no disk for the path of the journal, which is there and is read alone; or no door
-- at the address; or one. `doors'` and `back` are the doors and the disk that come back.
pub data Follows {World Disk Door Link : Type 0} (W : WorldGhosts World Door Disk Link) (G : DiskGhosts Disk) (H : DoorGhosts Door Link) (K : LinkGhosts Link) (options : FollowOptions)
    (w w' : World) (written written' : Option (List ℕ)) (code : ℕ) (doors' : List Door) (back : Option Disk) : Type 0 where
  no_disk : GivesNoDiskToRead W options.journal w w' → doors' ≡ [] → back ≡ None → EndsBy status.NoDisk written written' code
      → Follows W G H K options w w' written written' code doors' back
  no_door : (disk : Disk) (between : World) → GivesDiskToRead W options.journal w between disk → (fault : WorldFault) → GivesNoDoors W options.listen 1 follow_patience between w' fault
      → doors' ≡ [] → back ≡ Some disk → EndsWithoutDoors fault written written' code
      → Follows W G H K options w w' written written' code doors' back
  followed : (disk disk' : Disk) (between : World) (door door' : Door) → GivesDiskToRead W options.journal w between disk → GivesDoors W options.listen 1 follow_patience between w' (door ∷ [])
      → Reports G H K disk disk' door door' written written' code → doors' ≡ door' ∷ [] → back ≡ Some disk'
      → Follows W G H K options w w' written written' code doors' back
