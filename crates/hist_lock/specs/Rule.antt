-- The rule of the lock: what is true of its words, its slot and its seats between any two steps.
-- Word 0 is the length of the list, word 1 the next ticket, and word 2 the ticket that is served. Slot 0 has the value while no seat has the turn.
use Rattle.std.specs.Prelude.{◌≡◌, ℕ, suc, ◌+◌, ◌<◌, ◌≤◌, ◌⊎◌, List, [], ◌∷◌, length, Option, Some, None, Box}
use Rattle.std.specs.Global.{Global}
use mathlib.Core.Option.{some, none}
use mathlib.Core.Option as maybe
use mathlib.Core.List.{IsPrefix}
use lib.ListN.{get_elem?}
use Rattle.atomic_table.specs.Table.{State}
use Rattle.hist_lock.specs.declared.view.View.{View}
use Rattle.hist_lock.specs.declared.view.Stage.{Stage}
use Rattle.hist_lock.specs.declared.view.Stage.TheVariants.{Fresh, Filling, Idle, Waiting, Holding, Committed, Joining, Spent}
use Rattle.hist_lock.specs.Entries.{entries_of, KnowsOwn, NamesOnce}

-- from the origin, where there is one, the value stands for the list
abbrev pub StandsFrom : {S O E : Type 0} → (O → S → List E → Type 0) → Option O → S → List E → Type 0
StandsFrom stands None x h = ⊥
StandsFrom stands (Some o) x h = stands o x h

-- a value in a box stands for what it stands for out of it
abbrev pub boxed : {O S E : Type 0} → (O → S → List E → Type 0) → O → Box S Global → List E → Type 0
boxed stands o b h = stands o b.value h

-- what the first seat of a lock knows before there is a value
abbrev pub fresh : {O E : Type 0} → View O E
fresh = record { stage = Fresh; ticket = 0; origin = None; worker = 0; seen = []; shorter_seen = []; seen_before = []; joined_origin = None; joined = 0; made = 0; out = 0; ended = [] }

-- 1 for a seat that is neither joined nor closed, of a lock that has its value
abbrev pub weight : Stage → ℕ
weight Fresh = 0
weight Filling = 0
weight Idle = 1
weight Waiting = 1
weight Holding = 1
weight Committed = 1
weight Joining = 1
weight Spent = 0

-- how many seats are neither joined nor closed
abbrev pub live : {O E : Type 0} → List (View O E) → ℕ
live [] = 0
live (v ∷ vs) = weight v.stage + live vs

-- 1 for a seat that has the turn
abbrev pub turn_weight : Stage → ℕ
turn_weight Fresh = 0
turn_weight Filling = 0
turn_weight Idle = 0
turn_weight Waiting = 0
turn_weight Holding = 1
turn_weight Committed = 1
turn_weight Joining = 0
turn_weight Spent = 0

-- What is true of the lock and stands in no word or slot: its origin, its whole list, the tickets drawn and served, the numbers of worker 0's seat,
-- and the places of the seats: of the one that drew a ticket, and of the one that a worker got.
pub record Auxiliary (O E : Type 0) : Type 0 where
  pub origin : O
  -- the whole list
  pub log : List E
  pub drawn : ℕ
  pub served : ℕ
  pub made : ℕ
  pub out : ℕ
  pub ended : List (ℕ × List E)
  pub seat_of_ticket : ℕ → ℕ
  pub seat_of_worker : ℕ → ℕ

-- Three of the facts on the lock's list; the fourth is `knows`, below.
module _ {O E : Type 0} where
  -- some seat that is not joined has seen the whole list
  abbrev pub SomeSawAll : Auxiliary O E → List (View O E) → Type 0
  SomeSawAll f views = (i : ℕ) × (v : View O E) × (get_elem? views i ≡ some v) × (weight v.stage ≡ 1) × (v.seen ≡ f.log)

  -- no entry is of a worker that was not made
  abbrev pub NoneUnmade : (E → ℕ) → Auxiliary O E → Type 0
  NoneUnmade worker f = (w : ℕ) → f.made ≤ w → entries_of worker w f.log ≡ []

  -- the list has of a joined worker just the entries that the join recorded, and its seat is spent, so none can come
  abbrev pub Ended : (E → ℕ) → Auxiliary O E → List (View O E) → ℕ × List E → Type 0
  Ended worker f views p = (p.0 < f.made) × (entries_of worker p.0 f.log ≡ p.1) × ((u : View O E) × (get_elem? views (f.seat_of_worker p.0) ≡ some u) × (u.stage ≡ Spent))

  abbrev pub AllEnded : (E → ℕ) → Auxiliary O E → List (View O E) → Type 0
  AllEnded worker f views = (k : ℕ) (p : ℕ × List E) → get_elem? f.ended k ≡ some p → Ended worker f views p

-- the seat that this one takes in has the lock's origin, and is that of a worker that was made, and not worker 0's
pub record TookIn {O E : Type 0} (f : Auxiliary O E) (v : View O E) : Type 0 where
  pub origin : v.joined_origin ≡ Some f.origin
  pub other : 0 < v.joined
  pub number : v.joined < f.made

module _ {O E : Type 0} (worker : E → ℕ) (f : Auxiliary O E) (i : ℕ) (v : View O E) where
  -- What a seat knows that is not spent: every entry of its worker stands in its list (`knows`), and worker 0's seat has the numbers of the lock.
  pub record Placed : Type 0 where
    pub origin : v.origin ≡ Some f.origin
    pub number : v.worker < f.made
    pub seat_of_worker : f.seat_of_worker v.worker ≡ i
    pub knows : KnowsOwn worker v.worker v.seen f.log
    pub made : v.worker ≡ 0 → v.made ≡ f.made
    pub ended : v.worker ≡ 0 → v.ended ≡ f.ended

  -- worker 0's seat counts the seats that are out
  abbrev pub Out : Type 0
  Out = v.worker ≡ 0 → v.out ≡ f.out

  -- the seat has drawn a ticket that is still to be served
  abbrev pub Queued : Type 0
  Queued = (f.served ≤ v.ticket) × (v.ticket < f.drawn) × (f.seat_of_ticket v.ticket ≡ i)

module _ {S O E : Type 0} (worker : E → ℕ) (f : Auxiliary O E) (homes : List (maybe.Option (Option S))) (i : ℕ) (v : View O E) where
  -- The seat has the turn, and the slot is its: the value is out, and it has seen the whole list, which may be longer by `late` than the turns that ended.
  abbrev pub Serves : ℕ → Type 0
  Serves late = (v.ticket ≡ f.served) × (f.served < f.drawn) × (f.seat_of_ticket f.served ≡ i) × (v.seen ≡ f.log) × (homes ≡ none ∷ []) × (length f.log ≤ f.served + late)

  -- what the rule says of a seat, by its stage
  abbrev pub Agrees : Stage → Type 0
  Agrees Fresh = ⊥
  Agrees Filling = ⊥
  Agrees Idle = Placed worker f i v × Out worker f i v
  Agrees Waiting = Placed worker f i v × Out worker f i v × Queued worker f i v
  Agrees Holding = Placed worker f i v × Out worker f i v × Serves 0
  Agrees Committed = Placed worker f i v × Out worker f i v × Serves 1
  Agrees Joining = Placed worker f i v × (v.worker ≡ 0 → v.out ≡ suc f.out) × IsPrefix v.shorter_seen f.log × KnowsOwn worker v.worker v.seen_before f.log × TookIn f v
  Agrees Spent = Unit {0}

module _ {S O E : Type 0} (stands : O → S → List E → Type 0) (worker : E → ℕ) where
  -- the value is in the slot and stands for the whole list
  abbrev pub AtHome : Auxiliary O E → List (maybe.Option (Option S)) → Type 0
  AtHome f homes = (x : S) × (homes ≡ some (Some x) ∷ []) × stands f.origin x f.log × (length f.log ≤ f.served)

  -- the value is out, and the seat that drew the ticket that is served has the turn
  abbrev pub Away : Auxiliary O E → List (maybe.Option (Option S)) → List (View O E) → Type 0
  Away f homes views = (homes ≡ none ∷ []) × ((v : View O E) × (get_elem? views (f.seat_of_ticket f.served) ≡ some v) × (turn_weight v.stage ≡ 1))

  -- The lock has its value. Facts on its list are `known`, `named`, `each_ended`, and `knows` of each seat that is not spent.
  pub record Running (s : State (Option S) (View O E)) : Type 0 where
    pub f : Auxiliary O E
    pub words : s.words ≡ length f.log ∷ f.drawn ∷ f.served ∷ []
    -- 2 ^ 62, so no word can wrap
    pub few : f.drawn ≤ 4611686018427387904
    pub behind : f.served ≤ f.drawn
    pub value : AtHome f s.homes ⊎ Away f s.homes s.views
    pub each_seat : (i : ℕ) (v : View O E) → get_elem? s.views i ≡ some v → Agrees worker f s.homes i v v.stage
    -- the seats that are not joined are worker 0's and those that are out
    pub all_out : live s.views ≡ suc f.out
    pub known : SomeSawAll f s.views
    pub named : NoneUnmade worker f
    pub each_ended : AllEnded worker f s.views
    pub once : NamesOnce f.ended

  -- the lock is being made: it has one seat, which puts the value in
  abbrev pub Starting : State (Option S) (View O E) → Type 0
  Starting s = (v : View O E) × (s.words ≡ 0 ∷ 0 ∷ 0 ∷ []) × (s.views ≡ v ∷ [])
      × (((v.stage ≡ Fresh) × (s.homes ≡ some None ∷ [])) ⊎ ((v.stage ≡ Filling) × (s.homes ≡ none ∷ [])))

  -- what holds between any two steps
  abbrev pub LockRule : State (Option S) (View O E) → Type 0
  LockRule s = Starting s ⊎ Running s
