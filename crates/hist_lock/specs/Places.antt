-- What the steps of a turn know of the table's seat that they take, which the crate's private clauses cite.
use Rattle.std.specs.Prelude.{◌≡◌, ℕ, List, [], ◌∷◌, ◌++◌, Option, None}
use Rattle.atomic_table.specs.Seated.{TableId}
use Rattle.atomic_table.specs.declared.shared.Seat.{Seat}
use Rattle.hist_lock.specs.declared.view.View.{View}
use Rattle.hist_lock.specs.declared.view.Stage.TheVariants.{Idle, Holding}
use Rattle.hist_lock.specs.Entries.{entries_of}

-- a seat of the lock's table
abbrev pub Place : Type 0 → Type 0 → Type 0 → Type 0
Place S O E = Seat (Option S) (View O E)

module _ {S O E : Type 0} where
  abbrev pub lock_of : Place S O E → TableId
  lock_of p = p.table_id

  abbrev pub origin : Place S O E → Option O
  origin p = p.me.0.origin

  abbrev pub worker_of : Place S O E → ℕ
  worker_of p = p.me.0.worker

  abbrev pub seen : Place S O E → List E
  seen p = p.me.0.seen

  abbrev pub made : Place S O E → ℕ
  made p = p.me.0.made

  abbrev pub out : Place S O E → ℕ
  out p = p.me.0.out

  abbrev pub ended : Place S O E → List (ℕ × List E)
  ended p = p.me.0.ended

  -- the seat waits for nothing
  abbrev pub IsFree : Place S O E → Type 0
  IsFree p = (p.me.1 ≡ []) × (p.me.0.stage ≡ Idle)

  -- the seat has the slot, and the value was moved out of it
  abbrev pub HasTurn : Place S O E → Type 0
  HasTurn p = (p.me.1 ≡ (0, None) ∷ []) × (p.me.0.stage ≡ Holding)

  -- the same table and the same place on it
  abbrev pub IsPosted : Place S O E → Place S O E → Type 0
  IsPosted p q = (q.table_id ≡ p.table_id) × (q.id ≡ p.id)

  -- the same lock, origin, worker and numbers
  abbrev pub IsSame : Place S O E → Place S O E → Type 0
  IsSame p q = (lock_of q ≡ lock_of p) × (origin q ≡ origin p) × (worker_of q ≡ worker_of p) × (made q ≡ made p) × (out q ≡ out p) × (ended q ≡ ended p)

  -- the list has grown, by entries of other workers
  abbrev pub Grew : (E → ℕ) → Place S O E → Place S O E → Type 0
  Grew worker p q = (rest : List E) × (seen q ≡ seen p ++ rest) × (entries_of worker (worker_of p) rest ≡ [])
