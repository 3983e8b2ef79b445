-- Many doors, each served by a worker of its own, in the history of the exchange that they share.
use Rattle.std.specs.Prelude.{◌≡◌, ℕ, ◌+◌, ◌≤◌, List, [], ◌∷◌, ◌++◌, All, length, map, slice_get, sum_by, take, Option, Some, ⊤}
use Rattle.door_worker.specs.Answers.{Answered, AreDurable, ArePublished, IsRight, calls_of, store_failed}
use Rattle.door_worker.specs.Doors.{AreHeld, LeavesNone}
use Rattle.door_worker.specs.Languages.{Language}
use Rattle.exchange_shared.specs.Seats.{effects_in}
use Rattle.exchange_state.specs.declared.entries.Entry.{Entry}
use Rattle.exchange_state.specs.declared.entries.Origin.{Origin}
use Rattle.exchange_state.specs.Tickets.{state_after}
use Rattle.exchange_state.specs.Views.{calls, failed, failures, faults_told, mine, stable}
use Rattle.hist_lock.specs.Views.{PastView}
use Rattle.link_door.specs.Doors.{Held}
use Rattle.link_door.specs.declared.link.Link.{Ghosts}
use Rattle.plain_exchange.specs.Consistent.{IsSolvent}
use Rattle.rtb_base.specs.Faults.{Rose}
use Rattle.worker_pool.specs.declared.pool.PoolEnd.{PoolEnd}
use Rattle.worker_pool.specs.declared.pool.PoolEnd.TheVariants as ending

-- the history of a closed exchange
abbrev pub History : Type 0
History = PastView Origin Entry

-- At each place of the history no campaign has more than its budget committed.
abbrev pub KeepsBudgets : History → Type 0
KeepsBudgets past = (n : ℕ) → IsSolvent (state_after past.origin (take n (calls past.seen)))

module _ {L : Type 0} (K : Ghosts L) (language : Language) (past : History) where
  -- The messages of the door of worker w were answered by calls that are all that the history has of that worker, in
  -- their order, and no more of them were told of a failed store than it left failed marks.
  pub record IsServedBy (w : ℕ) (all : List Answered) (held after : Option (Held L)) : Type 0 where
    pub right : All (IsRight language w) all
    pub calls_are : mine w (calls past.seen) ≡ calls_of all
    pub failures_are : store_failed all ≤ failed past.seen w
    pub durable : AreDurable all w past.origin past.seen
    pub published : ArePublished all w past.origin past.seen
    pub door : AreHeld K language all held after

  -- the same of each door, from worker w on
  abbrev pub AreServedFrom : ℕ → List (List Answered) → List (Option (Held L)) → List (Option (Held L)) → Type 0
  AreServedFrom w [] [] [] = ⊤
  AreServedFrom w (all ∷ alls) (held ∷ helds) (after ∷ afters) = IsServedBy w all held after × AreServedFrom (w + 1) alls helds afters
  AreServedFrom w [] (held ∷ helds) afters = ⊥
  AreServedFrom w [] [] (after ∷ afters) = ⊥
  AreServedFrom w (all ∷ alls) [] afters = ⊥
  AreServedFrom w (all ∷ alls) (held ∷ helds) [] = ⊥

  -- of each door, the first of which is worker 0's; of a worker without a door the history has no call; and all that were told
  -- of a failed store are at most the failed marks
  pub record AreServed (helds afters : List (Option (Held L))) : Type 0 where
    pub alls : List (List Answered)
    pub each : AreServedFrom 0 alls helds afters
    pub others : (w : ℕ) → length helds ≤ w → mine w (calls past.seen) ≡ []
    pub few : sum_by store_failed alls ≤ failures past.seen

-- nothing was served
abbrev pub IsUntouched : History → Type 0
IsUntouched past = past.seen ≡ []

-- no link is left at any door
abbrev pub LeaveNone : {L : Type 0} → List (Option (Held L)) → List (Option (Held L)) → Type 0
LeaveNone [] [] = ⊤
LeaveNone (held ∷ helds) (after ∷ afters) = LeavesNone held after × LeaveNone helds afters
LeaveNone [] (after ∷ afters) = ⊥
LeaveNone (held ∷ helds) [] = ⊥

-- no link is left at each door whose count of faults did not rise
abbrev pub LeaveNoneUnlessRose : {G L : Type 0} → (G → ℕ) → (G → Option (Held L)) → List G → List G → Type 0
LeaveNoneUnlessRose faults_of held_of [] [] = ⊤
LeaveNoneUnlessRose faults_of held_of (door ∷ doors) (after ∷ afters) =
    (¬ Rose (faults_of door) (faults_of after) → LeavesNone (held_of door) (held_of after)) × LeaveNoneUnlessRose faults_of held_of doors afters
LeaveNoneUnlessRose faults_of held_of [] (after ∷ afters) = ⊥
LeaveNoneUnlessRose faults_of held_of (door ∷ doors) [] = ⊥

-- What is left at the doors, by how the serving ended: where no door failed nothing, also where the last write was not done; and
-- where one did, nothing at those whose count did not rise.
abbrev pub LeaveAs : {G L : Type 0} → (G → ℕ) → (G → Option (Held L)) → List G → List G → PoolEnd → Type 0
LeaveAs faults_of held_of doors afters ending.Served = LeaveNone (map held_of doors) (map held_of afters)
LeaveAs faults_of held_of doors afters ending.DoorFailed = LeaveNoneUnlessRose faults_of held_of doors afters
LeaveAs faults_of held_of doors afters ending.LastWriteFailed = LeaveNone (map held_of doors) (map held_of afters)
LeaveAs faults_of held_of doors afters ending.Memory = ⊤

-- some door's count of faults rose
abbrev pub SomeRose : List ℕ → List ℕ → Type 0
SomeRose before now = (k : ℕ) × (a : ℕ) × (b : ℕ) × (slice_get before k ≡ Some a) × (slice_get now k ≡ Some b) × Rose a b

-- The last write began behind the front, behind which no call came, and did not end: the count of failed calls of the disk
-- rose in it.
pub record BreaksOff (past : History) : Type 0 where
  pub front : List Entry
  pub behind : List Entry
  pub split : past.seen ≡ front ++ behind
  pub none : calls behind ≡ []
  pub rose : Rose (faults_told past.origin front) (faults_told past.origin past.seen)

-- Why the serving ended, with the counts of faults of the doors.
abbrev pub EndsAs : History → List ℕ → List ℕ → PoolEnd → Type 0
EndsAs past before now ending.Served = (now ≡ before) × (stable past.seen ≡ effects_in past.origin past.seen)
EndsAs past before now ending.DoorFailed = SomeRose before now
EndsAs past before now ending.LastWriteFailed = (now ≡ before) × BreaksOff past
EndsAs past before now ending.Memory = (now ≡ before) × IsUntouched past
