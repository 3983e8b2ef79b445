-- What two workers have of an exchange, each with its seat.
use Rattle.std.specs.Prelude.{◌≡◌, ℕ, ◌≤◌, IfSome, IsTrue}
use Rattle.atomic_table.specs.Seated.{TableId}
use Rattle.exchange_shared.specs.Seats.{MayCall, Seat, effects_in}
use Rattle.exchange_state.specs.Tickets.{IsVersionOf, version_in}
use Rattle.exchange_state.specs.Views.{calls}
use Rattle.hist_lock.specs.Views.{IsSameSeat}
use Rattle.rtb_disk.specs.declared.disk.Disk.{Ghosts}
use Rattle.rtb_types.specs.Valid.{is_valid}
use Rattle.seat_cases.specs.declared.seats.Hand.{Hand}
use Rattle.seat_cases.specs.declared.seats.Sought.{Sought}
use Rattle.seat_cases.specs.declared.session.Two.{Two}

-- the version is one of the history that the seat has seen, and the request is valid
pub record WasSought (s : Seat) (x : Sought) : Type 0 where
  pub version : IsVersionOf s.origin (calls s.seen) (version_in x.ticket)
  pub valid : IsTrue (is_valid x.request)

module _ {D : Type 0} {G : Ghosts D} where
  -- the seat may call, and the effects of its last command stand
  pub record IsHand (here : TableId) (h : Hand D G) : Type 0 where
    pub calls : MayCall here h.seat
    pub placed : h.upto ≤ effects_in h.seat.origin h.seat.seen

  -- the worker went on
  pub record GoesOn (here : TableId) (old new : Hand D G) : Type 0 where
    pub hand : IsHand here new
    pub same : IsSameSeat old.seat new.seat

  -- worker 0 and the only other worker
  pub record AreTwo (here : TableId) (t : Two D G) : Type 0 where
    pub first : IsHand here t.first
    pub second : IsHand here t.second
    pub worker : t.first.seat.worker ≡ 0
    pub out : t.first.seat.out ≡ 1
    pub sought : IfSome t.sought (WasSought t.second.seat)

-- worker 0's seat, where n others are out
pub record IsFirst (here : TableId) (n : ℕ) (s : Seat) : Type 0 where
  pub calls : MayCall here s
  pub worker : s.worker ≡ 0
  pub out : s.out ≡ n
