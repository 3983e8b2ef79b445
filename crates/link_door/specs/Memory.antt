-- What contracts see of a link and of a door in memory.
use Rattle.std.specs.Prelude.{ℕ, List}
use Rattle.rtb_base.specs.Calls.{Calls}
use Rattle.link_door.specs.Doors.{Held}

-- the bytes that are left to receive, those that were sent, and the calls
pub record LinkState : Type 0 where
  pub left : List ℕ
  pub sent : List ℕ
  pub calls : Calls

-- what it holds, and the calls of `next`
pub record DoorState : Type 0 where
  pub held : Held LinkState
  pub calls : Calls
