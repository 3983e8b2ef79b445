-- Only private clauses cite this file. The last write, and the closing.
use Rattle.std.specs.Prelude.{◌≡◌, List, [], ◌++◌, Bool, true, false, MatchBool}
use Rattle.exchange_shared.specs.Seats.{Seat, effects_in}
use Rattle.exchange_state.specs.declared.entries.Entry.{Entry}
use Rattle.exchange_state.specs.Views.{calls, faults_told, mine, stable}
use Rattle.rtb_base.specs.Faults.{Rose}
use Rattle.worker_pool.specs.Pools.{History}
use Rattle.worker_pool.specs.declared.pool.PoolEnd.{PoolEnd}
use Rattle.worker_pool.specs.declared.pool.PoolEnd.TheVariants as ending

-- how the serving ended, where a door failed or none, and the last write was done or not
abbrev pub end_of : Bool → Bool → PoolEnd
end_of true done = ending.DoorFailed
end_of false true = ending.Served
end_of false false = ending.LastWriteFailed

-- Behind the list of the seat s no call of its worker came, and all effects are durable, or the count of failed calls of the
-- disk rose.
pub record IsWritten (s : Seat) (failed : Bool) (past : History) (end : PoolEnd) : Type 0 where
  pub origin : past.origin ≡ s.origin
  pub behind : List Entry
  pub seen : past.seen ≡ s.seen ++ behind
  pub none : mine s.worker (calls behind) ≡ []
  pub done : Bool
  pub end_is : end ≡ end_of failed done
  pub how : MatchBool done (stable past.seen ≡ effects_in past.origin past.seen) (Rose (faults_told past.origin s.seen) (faults_told past.origin past.seen))
