-- Only private clauses cite this file. The jobs of workers: hired, done, and joined.
use Rattle.std.specs.Prelude.{◌≡◌, ℕ, suc, ◌-◌, ◌<◌, List, [], length, map, Bool, true, false, slice_index_or, Option, None, Some}
use Rattle.std.specs.List.{list_any}
use mathlib.Core.List.{IsPrefix}
use mathlib.Core.Option.{some}
use lib.ListN.{get_elem?}
use Rattle.atomic_table.specs.Seated.{TableId}
use Rattle.door_worker.specs.Doors.{LeavesNone, ServesDoor}
use Rattle.door_worker.specs.Languages.{Language}
use Rattle.door_worker.specs.declared.door.DoorEnd.{DoorEnd}
use Rattle.door_worker.specs.declared.door.DoorEnd.TheVariants.{Failed, Served}
use Rattle.exchange_shared.specs.Seats.{MayCall, Seat}
use Rattle.exchange_state.specs.declared.entries.Origin.{Origin}
use Rattle.exchange_state.specs.Views.{own}
use Rattle.link_door.specs.Doors.{Held}
use Rattle.link_door.specs.declared.link.Link.{Ghosts}
use Rattle.rtb_base.specs.Faults.{RisesOnlyWhere}

-- A job: a worker's seat, its door, and how the serving of the door ended.
abbrev pub Job : Type 0 → Type 0
Job G = Option Seat × G × DoorEnd

-- what worker 0's seat counts, where so many others were split from it and none was joined
pub record CountsOthers (others : ℕ) (s : Seat) : Type 0 where
  pub made : s.made ≡ suc others
  pub out : s.out ≡ others
  pub ended : s.ended ≡ []

-- the seat of worker w, which has seen nothing
pub record IsFresh (here : TableId) (o : Origin) (w : ℕ) (s : Seat) : Type 0 where
  pub may : MayCall here s
  pub origin : s.origin ≡ o
  pub worker : s.worker ≡ w
  pub seen : s.seen ≡ []

-- the job has such a seat
pub record IsHired {G : Type 0} (here : TableId) (o : Origin) (w : ℕ) (job : Job G) : Type 0 where
  pub seat : Seat
  pub has : job.0 ≡ Some seat
  pub fresh : IsFresh here o w seat

-- job k has the seat of worker k; worker 0's counts the others
pub record AreHired {G : Type 0} (here : TableId) (o : Origin) (jobs : List (Job G)) : Type 0 where
  pub some : 0 < length jobs
  pub each : (k : ℕ) (d : Job G) → k < length jobs → IsHired here o k (slice_index_or jobs k d)
  pub first : (s : Seat) (d : Job G) → (slice_index_or jobs 0 d).0 ≡ Some s → CountsOthers (length jobs - 1) s

-- while they are hired: job 0 waits for worker 0's seat, the others have theirs
pub record AreHiring {G : Type 0} (here : TableId) (o : Origin) (jobs : List (Job G)) (s : Seat) : Type 0 where
  pub some : 0 < length jobs
  pub none : (d : Job G) → (slice_index_or jobs 0 d).0 ≡ None
  pub others : (k : ℕ) (d : Job G) → 0 < k → k < length jobs → IsHired here o k (slice_index_or jobs k d)
  pub fresh : IsFresh here o 0 s
  pub counts : CountsOthers (length jobs - 1) s

module _ {G L : Type 0} (K : Ghosts L) (held_of : G → Option (Held L)) (faults_of : G → ℕ) (language : Language) (here : TableId) where
  -- the job's door was served with its seat
  pub record IsDone (old new : Job G) : Type 0 where
    pub before : Seat
    pub after : Seat
    pub had : old.0 ≡ Some before
    pub has : new.0 ≡ Some after
    pub may : MayCall here after
    pub served : ServesDoor K language before (held_of old.1) after (held_of new.1)
    pub all : new.2 ≡ Served → LeavesNone (held_of old.1) (held_of new.1)
    pub cause : RisesOnlyWhere (new.2 ≡ Failed) (faults_of old.1) (faults_of new.1)

  pub record AreDone (old new : List (Job G)) : Type 0 where
    pub many : length new ≡ length old
    pub each : (k : ℕ) (d : Job G) → k < length old → IsDone (slice_index_or old k d) (slice_index_or new k d)

-- the job has the seat of worker w
pub record IsBack {G : Type 0} (here : TableId) (w : ℕ) (job : Job G) : Type 0 where
  pub seat : Seat
  pub has : job.0 ≡ Some seat
  pub may : MayCall here seat
  pub worker : seat.worker ≡ w

-- job k has the seat of worker k, whatever it has seen; worker 0's counts the others
pub record AreBack {G : Type 0} (here : TableId) (jobs : List (Job G)) : Type 0 where
  pub some : 0 < length jobs
  pub each : (k : ℕ) (d : Job G) → k < length jobs → IsBack here k (slice_index_or jobs k d)
  pub first : (s : Seat) (d : Job G) → (slice_index_or jobs 0 d).0 ≡ Some s → CountsOthers (length jobs - 1) s

-- the list of the seat s goes on behind that of the seat b of the same exchange
pub record Follows (b s : Seat) : Type 0 where
  pub begins : IsPrefix b.seen s.seen
  pub origin : s.origin ≡ b.origin

-- Worker 0's seat after the seats of the workers below i were joined: its list begins with that of each of them, and has of
-- each just what its seat had.
pub record IsJoined {G : Type 0} (here : TableId) (jobs : List (Job G)) (i : ℕ) (s : Seat) : Type 0 where
  pub may : MayCall here s
  pub worker : s.worker ≡ 0
  pub made : s.made ≡ length jobs
  pub still_out : s.out ≡ length jobs - i
  pub many : length s.ended ≡ i - 1
  pub fronts : (k : ℕ) (b : Seat) (d : Job G) → k < i → (slice_index_or jobs k d).0 ≡ Some b → Follows b s
  pub ended : (k : ℕ) (b : Seat) (d : Job G) → 0 < k → k < i → (slice_index_or jobs k d).0 ≡ Some b → get_elem? s.ended (k - 1) ≡ some (k, own k b.seen)
  pub first : (b : Seat) (d : Job G) → (slice_index_or jobs 0 d).0 ≡ Some b → own 0 s.seen ≡ own 0 b.seen

-- ---- a door that failed

abbrev pub is_failed : DoorEnd → Bool
is_failed Failed = true
is_failed Served = false

abbrev pub has_failed : {G : Type 0} → List (Job G) → Bool
has_failed {G} jobs = list_any (λ (job : Job G). is_failed job.2) jobs

-- The jobs were done, and were these then: a door failed or none did, and worker 0's seat has taken in the others. What is left
-- has the same doors.
module _ {G L : Type 0} (K : Ghosts L) (held_of : G → Option (Held L)) (faults_of : G → ℕ) (language : Language) (here : TableId) where
  pub record AreGathered (old left : List (Job G)) (s : Seat) (failed : Bool) : Type 0 where
    pub jobs : List (Job G)
    pub done : AreDone K held_of faults_of language here old jobs
    pub back : AreBack here jobs
    pub joined : IsJoined here jobs (length jobs) s
    pub failed_is : failed ≡ has_failed jobs
    pub many : length left ≡ length old
    pub doors : map (λ (job : Job G). job.1) left ≡ map (λ (job : Job G). job.1) jobs
