-- Only private clauses cite this file. A seat whose worker has the journal.
use Rattle.std.specs.Prelude.{◌≡◌, ℕ, ◌+◌, ◌≤◌, if◌then◌else◌, List, [], ◌∷◌, ◌++◌, All, Bool, true, false, None}
use Rattle.atomic_table.specs.Seated.{TableId}
use Rattle.effects.specs.Bytes.{IsEncodable}
use Rattle.exchange_shared.specs.declared.changing.Changed.{Changed}
use Rattle.exchange_shared.specs.declared.changing.Changed.TheVariants as changed
use Rattle.exchange_shared.specs.declared.changing.Staged.{Staged}
use Rattle.exchange_shared.specs.declared.changing.Staged.TheVariants as staged
use Rattle.exchange_shared.specs.declared.writing.Look.{Look}
use Rattle.exchange_shared.specs.declared.writing.Look.TheVariants as look
use Rattle.exchange_shared.specs.Seats.{Gains, Seat, Waits, effects_in}
use Rattle.exchange_state.specs.declared.entries.Entry.{Entry}
use Rattle.exchange_state.specs.declared.errand.Errand.{Errand}
use Rattle.exchange_state.specs.declared.state.Settled.{Settled}
use Rattle.exchange_state.specs.Errands.{IsDone, IsErrand, IsStaged, taking_mark}
use Rattle.exchange_state.specs.Tickets.{IsLegalFrom, effects_after, state_after}
use Rattle.exchange_state.specs.Views.{Taking, called, calls, faults_told, is_behind, out, own, put, stable}
use Rattle.hist_lock.specs.Views.{seat_with}
use Rattle.journal_file.specs.Standing.{faults_of}
use Rattle.plain_exchange.specs.declared.commands.Command.{Command}
use Rattle.plain_exchange.specs.Step.{effect_of}
use Rattle.rtb_base.specs.Faults.{Rose}
use Rattle.rtb_disk.specs.declared.disk.Disk.{Ghosts}

module _ {D : Type 0} {G : Ghosts D} where
  -- the mark of taking it
  abbrev pub taken_by : Seat → Errand D G → Entry
  taken_by s e = taking_mark s.worker e

  -- and of putting it back
  abbrev pub put_by : Seat → Errand D G → Bool → Entry
  put_by s e written = put s.worker written (if written then e.upto else stable s.seen) (faults_of e.journal)

  -- the journal is out with the seat's worker, whose last entry in the list is the mark of that
  pub record HasErrand (here : TableId) (s : Seat) (e : Errand D G) : Type 0 where
    pub lock : s.lock ≡ here
    pub free : s.turn ≡ false
    pub before : List Entry
    pub errand : IsErrand s.origin before e
    pub encodable : All IsEncodable (effects_after s.origin (calls before))
    pub seen : s.seen ≡ before ++ taken_by s e ∷ []

  -- The journal is out with a change ahead, which the seat's worker has: its last entry in the list is the mark of that.
  pub record HasStaged (here : TableId) (s : Seat) (command : Command) (moment : ℕ) (e : Errand D G) : Type 0 where
    pub lock : s.lock ≡ here
    pub free : s.turn ≡ false
    pub before : List Entry
    pub staged : IsStaged s.origin before command moment e
    pub encodable : All IsEncodable (effects_after s.origin (calls before))
    pub seen : s.seen ≡ before ++ taken_by s e ∷ []

  -- And then the change was carried out: its call is the last entry.
  pub record HasEntered (here : TableId) (s t : Seat) (command : Command) (moment : ℕ) (e : Errand D G) (settled : Settled) : Type 0 where
    pub staged : HasStaged here s command moment e
    pub called_is : Gains (called s.worker command moment settled.reply) s t
    pub ahead : e.upto ≡ effects_in s.origin (s.seen ++ called_is.more) + 1
    pub legal : IsLegalFrom t.origin (calls t.seen)
    pub upto : settled.upto ≡ effects_in t.origin t.seen

  -- the same up to the putting of the journal
  pub record LandsAhead (command : Command) (moment : ℕ) (s : Seat) (e : Errand D G) (t : Seat) (settled : Settled) (written : Bool) : Type 0 where
    pub calling : Seat
    pub called_is : Gains (called s.worker command moment settled.reply) s calling
    pub legal : IsLegalFrom calling.origin (calls calling.seen)
    pub upto : settled.upto ≡ effects_in calling.origin calling.seen
    pub durable : ℕ
    pub count : ℕ
    pub put_is : Gains (put s.worker written durable count) calling t
    pub there : written ≡ true → durable ≡ settled.upto
    pub rose : written ≡ false → Rose (faults_of e.journal) count

  abbrev pub Puts : Command → ℕ → Seat → Errand D G → Seat → Changed → Type 0
  Puts command moment s e t (changed.Durable settled) = LandsAhead command moment s e t settled true
  Puts command moment s e t (changed.StoreFailed settled) = LandsAhead command moment s e t settled false
  Puts command moment s e t changed.NotAlone = ⊥

  -- what comes of staging a change
  abbrev pub Stages : TableId → Command → ℕ → Seat → Seat → Staged D G → Type 0
  Stages here command moment s t (staged.Errand e) = HasStaged here t command moment e × Gains (taken_by s e) s t
  Stages here command moment s t staged.NotAlone = Waits s t × (out t.seen ≡ None → is_behind t.seen ≡ false → stable t.seen ≡ effects_in t.origin t.seen
      → effect_of t.origin.settings moment (state_after t.origin (calls t.seen)) command ≡ None)

  -- the seat has the turn, and may put the journal back so
  pub record MayPutBy (s : Seat) (e : Errand D G) (written : Bool) : Type 0 where
    pub taking : Taking
    pub by : taking.worker ≡ s.worker
    pub done : IsDone s.origin s.seen taking e written

  -- what came of a look at the journal
  abbrev pub Looks : TableId → ℕ → Seat → Seat → Look D G → Type 0
  Looks here upto s t look.Durable = Waits s t × (upto ≤ stable t.seen)
  Looks here upto s t look.Written = Waits s t × (stable t.seen ≡ effects_in t.origin t.seen) × (out t.seen ≡ None)
  Looks here upto s t look.Out = Waits s t
  Looks here upto s t (look.Errand e) = HasErrand here t e × Gains (taken_by s e) s t

  -- The journal is home again, with the block written; or the block was not written, and it is broken.
  abbrev pub PutsBack : Seat → Errand D G → Seat → Type 0
  PutsBack s e t = (faults : ℕ) × Gains (put s.worker true e.upto faults) s t

  pub record LeavesBroken (s : Seat) (e : Errand D G) (t : Seat) : Type 0 where
    pub more : List Entry
    pub others : own s.worker more ≡ []
    pub durable : ℕ
    pub faults : ℕ
    pub same : t ≡ seat_with s ((s.seen ++ more) ++ put s.worker false durable faults ∷ []) false
    pub told : faults_told s.origin (s.seen ++ more) ≡ faults_of e.journal
    pub rose : Rose (faults_told s.origin (s.seen ++ more)) faults
