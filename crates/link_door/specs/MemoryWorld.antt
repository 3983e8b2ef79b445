-- What contracts see of a world in memory.
use Rattle.std.specs.Prelude.{ℕ, List, [], ◌∷◌, Bool, true, length, take, nat_eq, nat_lt, ◌||◌}
use Rattle.rtb_base.specs.Calls.{Calls, next_fails}
use Rattle.rtb_disk.specs.Memory.{DiskState, store_of}
use Rattle.link_door.specs.Memory.{DoorState}
use Rattle.link_door.specs.declared.asked.Asked.{Asked}

-- the doors, the disks and the texts of keys that are left, how many calls find a disk that another writes, what was asked
-- for, and the calls
pub record WorldState : Type 0 where
  pub doors : List DoorState
  pub disks : List DiskState
  pub keys : List (List ℕ)
  pub busy : ℕ
  pub asked : List Asked
  pub calls : Calls

-- what is read of the text of a key: one byte more than a key has tells that it is too long
abbrev pub key_front : List ℕ → List ℕ
key_front text = take 65 text

-- a call for so many of these has to fail: it is told to, or there are too few
abbrev pub lacks : {Item : Type 0} → Calls → List Item → ℕ → Bool
lacks calls items n = next_fails calls || nat_lt (length items) n

-- none of these is left, or the first has nothing in it
abbrev pub lacks_there : List DiskState → Bool
lacks_there [] = true
lacks_there (disk ∷ disks) = nat_eq (length (store_of disk).reads) 0
