-- The steps on the table: what the seat that takes one knows after it, and what it is told.
use Rattle.std.specs.Prelude.{◌≡◌, ℕ, suc, ◌-◌, ◌<◌, ◌≤◌, ◌≢◌, List, [], ◌∷◌, ◌++◌, length, Option, Some, None}
use mathlib.Core.List.{IsPrefix}
use Rattle.atomic_table.specs.Table.{Me, Step, rest}
use Rattle.hist_lock.specs.declared.view.View.{View}
use Rattle.hist_lock.specs.declared.view.Stage.{Stage}
use Rattle.hist_lock.specs.declared.view.Stage.TheVariants.{Filling, Idle, Waiting, Holding, Committed, Joining, Spent}
use Rattle.hist_lock.specs.Entries.{entries_of, longer, shorter, NamesOnce}
use Rattle.hist_lock.specs.Rule.{StandsFrom}

-- What a seat knows next.
module _ {O E : Type 0} where
  -- a seat that was joined
  abbrev pub spent_view : View O E
  spent_view = record { stage = Spent; ticket = 0; origin = None; worker = 0; seen = []; shorter_seen = []; seen_before = []; joined_origin = None; joined = 0; made = 0; out = 0; ended = [] }

  -- worker 0's seat of a new lock
  abbrev pub first_view : O → View O E
  first_view o = record { stage = Idle; ticket = 0; origin = Some o; worker = 0; seen = []; shorter_seen = []; seen_before = []; joined_origin = None; joined = 0; made = 1; out = 0; ended = [] }

  -- another stage, and beside it another ticket or another list
  abbrev pub staged : Stage → View O E → View O E
  staged st v = record { stage = st; ticket = v.ticket; origin = v.origin; worker = v.worker; seen = v.seen; shorter_seen = v.shorter_seen; seen_before = v.seen_before; joined_origin = v.joined_origin; joined = v.joined; made = v.made; out = v.out; ended = v.ended }

  abbrev pub waiting : ℕ → View O E → View O E
  waiting t v = record { stage = Waiting; ticket = t; origin = v.origin; worker = v.worker; seen = v.seen; shorter_seen = v.shorter_seen; seen_before = v.seen_before; joined_origin = v.joined_origin; joined = v.joined; made = v.made; out = v.out; ended = v.ended }

  abbrev pub seeing : Stage → List E → View O E → View O E
  seeing st l v = record { stage = st; ticket = v.ticket; origin = v.origin; worker = v.worker; seen = l; shorter_seen = v.shorter_seen; seen_before = v.seen_before; joined_origin = v.joined_origin; joined = v.joined; made = v.made; out = v.out; ended = v.ended }

  -- Split: worker 0's seat, and the new one, whose worker is the next number.
  abbrev pub parent : View O E → View O E
  parent v = record { stage = v.stage; ticket = v.ticket; origin = v.origin; worker = v.worker; seen = v.seen; shorter_seen = v.shorter_seen; seen_before = v.seen_before; joined_origin = v.joined_origin; joined = v.joined; made = suc v.made; out = suc v.out; ended = v.ended }

  abbrev pub child : View O E → View O E
  child v = record { stage = Idle; ticket = 0; origin = v.origin; worker = v.made; seen = v.seen; shorter_seen = []; seen_before = []; joined_origin = None; joined = 0; made = 0; out = 0; ended = [] }

  -- Join: the longer list stays. What was shorter, what the seat had seen itself, and whose seat is taken in, are kept until the lists are compared.
  abbrev pub both : (E → ℕ) → View O E → View O E → View O E
  both worker v w = record {
    stage = Joining;
    ticket = v.ticket;
    origin = v.origin;
    worker = v.worker;
    seen = longer v.seen w.seen;
    shorter_seen = shorter v.seen w.seen;
    seen_before = v.seen;
    joined_origin = w.origin;
    joined = w.worker;
    made = v.made;
    out = v.out;
    ended = v.ended ++ (w.worker, entries_of worker w.worker w.seen) ∷ [];
  }

  -- after the comparison
  abbrev pub compared : View O E → View O E
  compared v = record { stage = Idle; ticket = v.ticket; origin = v.origin; worker = v.worker; seen = v.seen; shorter_seen = []; seen_before = []; joined_origin = None; joined = 0; made = v.made; out = v.out - 1; ended = v.ended }

-- What a step tells: of the seat before it (m), the word's value (n) and the seat after it (m'), each seat with the slots that it has out.
abbrev Sat : Type 0 → Type 0 → Type 0 → Type 0
Sat S O E = Me (Option S) (View O E)

module _ {S O E : Type 0} where
  -- the empty slot of a new lock is taken out
  abbrev pub filling : Step (Option S) → Sat S O E → ℕ → Sat S O E → Type 0
  filling st m n m' = m' ≡ (staged Filling m.0, (0, None) ∷ [])

  -- the first value is put in, and the lock has its origin, of which this holds
  abbrev pub begun : (O → Type 0) → Step (Option S) → Sat S O E → ℕ → Sat S O E → Type 0
  begun starts st m n m' = (o : O) × starts o × (m' ≡ (first_view o, []))

  -- Draw: where the word had the number that was expected, the seat has it as its ticket, and else it is as before.
  abbrev pub drawing : Step (Option S) → Sat S O E → ℕ → Sat S O E → Type 0
  drawing st m n m' = (n ≡ st.first → m' ≡ (waiting n m.0, m.1)) × (n ≢ st.first → m' ≡ m)

  -- Take out: the seat has seen the whole list, of which none is its own that it did not know, and the value stands for that list.
  abbrev pub Served : (O → S → List E → Type 0) → (E → ℕ) → Sat S O E → Sat S O E → Type 0
  Served stands worker m m' = (rest : List E) × (x : S) × (m' ≡ (seeing Holding (m.0.seen ++ rest) m.0, (0, Some x) ∷ m.1)) × (entries_of worker m.0.worker rest ≡ [])
      × StandsFrom stands m.0.origin x (m.0.seen ++ rest) × (length (m.0.seen ++ rest) < 4611686018427387904)

  -- Look: where the seat's ticket is served it takes the value out in the same step, and else it is as before.
  abbrev pub looking : (O → S → List E → Type 0) → (E → ℕ) → Step (Option S) → Sat S O E → ℕ → Sat S O E → Type 0
  looking stands worker st m n m' = (n ≡ m.0.ticket → Served stands worker m m') × (n ≢ m.0.ticket → m' ≡ m)

  -- Commit: the list gains the entry.
  abbrev pub committing : E → Step (Option S) → Sat S O E → ℕ → Sat S O E → Type 0
  committing e st m n m' = m' ≡ (seeing Committed (m.0.seen ++ e ∷ []) m.0, m.1)

  -- Put back and pass on: the value is in the slot again, and the next ticket is served.
  abbrev pub passing : Step (Option S) → Sat S O E → ℕ → Sat S O E → Type 0
  passing st m n m' = m' ≡ (staged Idle m.0, rest m.1)

  -- After a join: one seat fewer is out, the shorter list begins the longer, and the longer has no entry more of the seat's own worker. No worker was
  -- joined twice, and the seat that was taken in is another's that was made, of the same origin.
  abbrev pub comparing : (E → ℕ) → Step (Option S) → Sat S O E → ℕ → Sat S O E → Type 0
  comparing worker st m n m' = (m' ≡ (compared m.0, m.1)) × (m.0.out ≡ suc (m.0.out - 1)) × (length m.0.shorter_seen ≤ length m.0.seen → IsPrefix m.0.shorter_seen m.0.seen)
      × (entries_of worker m.0.worker m.0.seen ≡ entries_of worker m.0.worker m.0.seen_before)
      × NamesOnce m.0.ended × (m.0.joined_origin ≡ m.0.origin) × (0 < m.0.joined) × (m.0.joined < m.0.made)

  -- Before a split: no entry that was seen is of the next worker.
  abbrev pub counting : (E → ℕ) → Step (Option S) → Sat S O E → ℕ → Sat S O E → Type 0
  counting worker st m n m' = (m' ≡ m) × (entries_of worker m.0.made m.0.seen ≡ [])
