-- What contracts see of a seat and of a closed lock. A lock is seen as its name.
use Rattle.std.specs.Prelude.{◌≡◌, ◌⊎◌, ℕ, suc, ◌≤◌, ◌<◌, Bool, true, false, List, [], ◌∷◌, ◌++◌, Option, None, Some}
use mathlib.Core.Bool.{true≢false}
use mathlib.Core.Path.{sym}
use mathlib.Core.Option.{some}
use mathlib.Core.List.{IsPrefix}
use lib.ListN.{get_elem?}
use Rattle.atomic_table.specs.Seated.{TableId}
use Rattle.atomic_table.specs.declared.shared.Seat.{Seat}
use Rattle.hist_lock.specs.declared.view.View.{View}
use Rattle.hist_lock.specs.declared.view.Stage.{Stage}
use Rattle.hist_lock.specs.declared.view.Stage.TheVariants.{Fresh, Filling, Idle, Waiting, Holding, Committed, Joining, Spent}
use Rattle.hist_lock.specs.Entries.{entries_of, longer, NamesOnce}

-- a worker's seat, as contracts see it
pub record SeatView (O E : Type 0) : Type 0 where
  pub lock : TableId
  pub origin : O
  pub worker : ℕ
  pub seen : List E
  pub turn : Bool
  -- of worker 0: how many seats were made, how many are out, and each joined worker with its entries
  pub made : ℕ
  pub out : ℕ
  pub ended : List (ℕ × List E)

-- the history of a closed lock
pub record PastView (O E : Type 0) : Type 0 where
  pub origin : O
  pub seen : List E

-- whether the seat's lock has its origin, as the lock of every `Seat` and `Past` has
abbrev pub is_begun : {O : Type 0} → Option O → Bool
is_begun None = false
is_begun (Some o) = true

-- the origin, where there is one
abbrev pub begun_at : {O : Type 0} → (o : Option O) → is_begun o ≡ true → O
begun_at None p = absurd (true≢false (sym p))
begun_at (Some o) p = o

-- whether a seat at this stage has the turn
abbrev pub holds_turn : Stage → Bool
holds_turn Fresh = false
holds_turn Filling = false
holds_turn Idle = false
holds_turn Waiting = false
holds_turn Holding = true
holds_turn Committed = true
holds_turn Joining = false
holds_turn Spent = false

-- what contracts see of the table's seat
abbrev pub view_of : {S O E : Type 0} → (p : Seat (Option S) (View O E)) → is_begun p.me.0.origin ≡ true → SeatView O E
view_of p b = record { lock = p.table_id; origin = begun_at p.me.0.origin b; worker = p.me.0.worker; seen = p.me.0.seen; turn = holds_turn p.me.0.stage; made = p.me.0.made; out = p.me.0.out; ended = p.me.0.ended }

-- between two calls the seat waits for nothing, or has the turn
abbrev pub IsWhole : {S O E : Type 0} → Seat (Option S) (View O E) → Type 0
IsWhole p = ((p.me.0.stage ≡ Idle) × (p.me.1 ≡ [])) ⊎ ((p.me.0.stage ≡ Holding) × (p.me.1 ≡ (0, None) ∷ []))

module _ {O E : Type 0} where
  -- worker 0's seat of a new lock
  abbrev pub first_seat : TableId → O → SeatView O E
  first_seat lock o = record { lock = lock; origin = o; worker = 0; seen = []; turn = false; made = 1; out = 0; ended = [] }

  -- the seat with another list, and with the turn or without
  abbrev pub seat_with : SeatView O E → List E → Bool → SeatView O E
  seat_with s l turn = record { lock = s.lock; origin = s.origin; worker = s.worker; seen = l; turn = turn; made = s.made; out = s.out; ended = s.ended }

  -- the list has grown, by entries of other workers, and the seat has the turn
  abbrev pub Enters : (E → ℕ) → SeatView O E → SeatView O E → Type 0
  Enters worker s t = (rest : List E) × (t ≡ seat_with s (s.seen ++ rest) true) × (entries_of worker s.worker rest ≡ [])

  -- The seat s becomes t, and the new seat n is the next worker's, with the same list. No entry that was seen is its.
  abbrev pub SplitsOff : (E → ℕ) → SeatView O E → SeatView O E → SeatView O E → Type 0
  SplitsOff worker s t n = (t ≡ record { lock = s.lock; origin = s.origin; worker = s.worker; seen = s.seen; turn = s.turn; made = suc s.made; out = suc s.out; ended = s.ended })
      × (n ≡ record { lock = s.lock; origin = s.origin; worker = s.made; seen = s.seen; turn = false; made = 0; out = 0; ended = [] })
      × (entries_of worker s.made s.seen ≡ [])

  -- The seat s takes in b and becomes t. The longer list stays, of which both are beginnings, and no more of its entries are of the worker of s
  pub record TakesIn (worker : E → ℕ) (s b t : SeatView O E) : Type 0 where
    pub lock : t.lock ≡ s.lock
    pub origin : t.origin ≡ s.origin
    pub number : t.worker ≡ s.worker
    pub turn : t.turn ≡ false
    pub made : t.made ≡ s.made
    pub out : s.out ≡ suc t.out
    pub ended : t.ended ≡ s.ended ++ (b.worker, entries_of worker b.worker b.seen) ∷ []
    pub seen : t.seen ≡ longer s.seen b.seen
    pub begins : IsPrefix s.seen t.seen
    pub other_begins : IsPrefix b.seen t.seen
    pub own : entries_of worker s.worker t.seen ≡ entries_of worker s.worker s.seen
    pub once : NamesOnce t.ended
    -- b is of a worker that was made, and of the same origin
    pub other_origin : b.origin ≡ s.origin
    pub other_number : (0 < b.worker) × (b.worker < s.made)

  -- the entries of each joined worker are all that the list has of it, no entry is of a worker that was not made, and no worker was joined twice
  abbrev pub Complete : (E → ℕ) → SeatView O E → List E → Type 0
  Complete worker s log = ((k : ℕ) (e : ℕ × List E) → get_elem? s.ended k ≡ some e → entries_of worker e.0 log ≡ e.1) × ((w : ℕ) → s.made ≤ w → entries_of worker w log ≡ []) × NamesOnce s.ended

  -- the same seat, without the turn, whatever it has seen
  abbrev pub IsSameSeat : SeatView O E → SeatView O E → Type 0
  IsSameSeat s t = t ≡ seat_with s t.seen false
