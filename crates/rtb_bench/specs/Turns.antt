-- Workers that take turns under a lock, each with a seat.
use Rattle.std.specs.Prelude.{ℕ, ◌≡◌, suc, false, Option, Some}
use Rattle.atomic_table.specs.Seated.{TableId}
use Rattle.hist_lock.specs.Views.{SeatView}

-- a seat of the lock, without the turn
abbrev pub MayEnter : TableId → SeatView ℕ ℕ → Type 0
MayEnter lock seat = (seat.lock ≡ lock) × (seat.turn ≡ false)

-- worker 0's seat, of which n others were split
pub record IsFirst (lock : TableId) (n : ℕ) (s : SeatView ℕ ℕ) : Type 0 where
  pub enters : MayEnter lock s
  pub worker : s.worker ≡ 0
  pub made : s.made ≡ suc n

-- the job has a seat
pub record IsHired (lock : TableId) (job : Option (SeatView ℕ ℕ)) : Type 0 where
  pub seat : SeatView ℕ ℕ
  pub has : job ≡ Some seat
  pub enters : MayEnter lock seat
