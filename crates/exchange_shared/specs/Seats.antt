-- What a seat of an exchange knows before and after a call.
use Rattle.std.specs.Prelude.{◌≡◌, ℕ, ◌+◌, ◌<◌, ◌≤◌, List, [], ◌∷◌, ◌++◌, All, length, Bool, true, false, None, Some, Result, Ok, Err}
use Rattle.atomic_table.specs.Seated.{TableId}
use Rattle.auction_core.specs.Found.{AreFound}
use Rattle.clearing.specs.declared.Offer.{Offer}
use Rattle.exchange_shared.specs.declared.changing.Changed.{Changed}
use Rattle.exchange_shared.specs.declared.changing.Changed.TheVariants as changed
use Rattle.exchange_shared.specs.declared.exchange.Exchange.{Exchange}
use Rattle.exchange_state.specs.declared.entries.Entry.{Entry}
use Rattle.exchange_state.specs.declared.entries.Event.{Event}
use Rattle.exchange_state.specs.declared.entries.Event.TheVariants as event
use Rattle.exchange_state.specs.declared.entries.Origin.{Origin}
use Rattle.exchange_state.specs.declared.state.Published.{Published}
use Rattle.exchange_state.specs.declared.state.Published.TheVariants as answer
use Rattle.exchange_state.specs.declared.state.Settled.{Settled}
use Rattle.exchange_state.specs.declared.state.Unsettled.{Unsettled}
use Rattle.exchange_state.specs.Tickets.{IsLegalFrom, IsVersionOf, edits_after, effects_after, state_after}
use Rattle.exchange_state.specs.Views.{AreInTurn, IsRising, Taking, called, calls, faults_told, is_behind, out, own, published, published_at, put, stable, taken}
use Rattle.hist_lock.specs.Views.{SeatView, seat_with}
use Rattle.index_versions.specs.declared.version.Version.{Version}
use Rattle.plain_exchange.specs.declared.commands.Command.{Command}
use Rattle.plain_exchange.specs.Step.{effect_of}
use Rattle.rtb_base.specs.Faults.{Rose}
use Rattle.rtb_disk.specs.declared.disk.Disk.{Ghosts}
use Rattle.rtb_types.specs.declared.request.BidRequest.{BidRequest}

-- the name of an exchange's lock
abbrev pub lock_of : {D : Type 0} {G : Ghosts D} → Exchange D G → TableId
lock_of x = x.lock

-- what contracts see of a seat
abbrev pub Seat : Type 0
Seat = SeatView Origin Entry

-- the worker that an entry names
abbrev pub worker_of : Entry → ℕ
worker_of e = e.worker

-- how many effects stand in the list
abbrev pub effects_in : Origin → List Entry → ℕ
effects_in o l = length (effects_after o (calls l))

-- The seat is this lock's, it has no turn, and its worker does not have the journal.
pub record MayCall (here : TableId) (s : Seat) : Type 0 where
  pub lock : s.lock ≡ here
  pub free : s.turn ≡ false
  pub no_journal : out (own s.worker s.seen) ≡ None

-- The list of the seat went on, and no entry that came is of its worker.
pub record Waits (s t : Seat) : Type 0 where
  pub more : List Entry
  pub others : own s.worker more ≡ []
  pub same : t ≡ seat_with s (s.seen ++ more) false

-- The list went on, and its last entry is the one of the seat's worker that came.
pub record Gains (e : Entry) (s t : Seat) : Type 0 where
  pub more : List Entry
  pub others : own s.worker more ≡ []
  pub same : t ≡ seat_with s ((s.seen ++ more) ++ e ∷ []) false

-- The marks of the list are in order: a worker that took the journal has put it back before it is taken again; and along
-- the list neither the count of failed calls of the disk falls, nor that of durable effects, nor the edit of the version.
pub record IsOrdered (o : Origin) (l : List Entry) : Type 0 where
  pub in_turn : AreInTurn None l
  pub rising : IsRising o l

-- ---- calls

-- The command has its entry, with the reply of the exchange of one thread at that place; so many effects stand with it,
-- and so many were durable then.
pub record Calls (command : Command) (moment : ℕ) (s t : Seat) (settled : Settled) : Type 0 where
  pub gains : Gains (called s.worker command moment settled.reply) s t
  pub legal : IsLegalFrom t.origin (calls t.seen)
  pub upto : settled.upto ≡ effects_in t.origin t.seen
  pub durable : settled.durable ≡ stable t.seen

-- the list that the turn of a call began with
abbrev pub Settles : Command → ℕ → Seat → Seat → List Entry → Result Settled Unsettled → Type 0
Settles command moment s t l (Ok settled) = t.seen ≡ l ++ called s.worker command moment settled.reply ∷ []
Settles command moment s t l (Err e) = t.seen ≡ l

-- the version is one of the history that the seat has seen, and these candidates were found in it for the request
pub record MayBeSettled (s : Seat) (v : Version) (asked : BidRequest) (found : List (List Offer)) : Type 0 where
  pub version : IsVersionOf s.origin (calls s.seen) v
  pub found_are : AreFound v.live asked found

-- ---- changes that are written first

-- The worker took the journal, entered the call of the command with the reply of the exchange of one thread at that
-- place, and put the journal back, with the block written or not. With the block written the effects up to the call are
-- durable; where it was not, the count of failed calls of the disk rose since the taking, so a call that this worker
-- made for the block failed.
pub record Lands (command : Command) (moment : ℕ) (s t : Seat) (settled : Settled) (written : Bool) : Type 0 where
  pub end : ℕ
  pub faults : ℕ
  pub taking : Seat
  pub taken_is : Gains (taken s.worker end false faults) s taking
  pub calling : Seat
  pub called_is : Gains (called s.worker command moment settled.reply) taking calling
  pub legal : IsLegalFrom calling.origin (calls calling.seen)
  pub upto : settled.upto ≡ effects_in calling.origin calling.seen
  pub durable : ℕ
  pub count : ℕ
  pub put_is : Gains (put s.worker written durable count) calling t
  pub there : written ≡ true → durable ≡ settled.upto
  pub rose : written ≡ false → Rose faults count

-- The change landed, or a call of the disk failed. Or nothing was carried out, since it could not go ahead: the journal
-- was out or broken, effects were not durable, or it has none.
abbrev pub Changes : Command → ℕ → Seat → Seat → Changed → Type 0
Changes command moment s t (changed.Durable settled) = Lands command moment s t settled true
Changes command moment s t (changed.StoreFailed settled) = Lands command moment s t settled false
Changes command moment s t changed.NotAlone = Waits s t × (out t.seen ≡ None → is_behind t.seen ≡ false → stable t.seen ≡ effects_in t.origin t.seen
    → effect_of t.origin.settings moment (state_after t.origin (calls t.seen)) command ≡ None)

-- ---- versions

-- A version was published of all edits that the seat had seen. It is newer than the one that was present until then, and
-- so many edits or more stand since the one that the seat had seen. Or the present version lacks fewer than so many of the
-- edits that the seat had seen.
abbrev pub Publishes : ℕ → Seat → Seat → Published → Type 0
Publishes after s t (answer.New edit) = (gained : Gains (published_at s.worker edit) s t) × (edits_after s.origin (calls s.seen) ≤ edit)
    × (published s.origin (s.seen ++ gained.more) < edit) × (published s.origin s.seen + after ≤ edit)
Publishes after s t (answer.Kept edit) = Waits s t × (edit ≡ published t.origin t.seen) × (edits_after s.origin (calls s.seen) < edit + after)

-- ---- the journal

-- the mark of a journal that was taken out, or put back with its block written
abbrev pub IsWriting : Event → Type 0
IsWriting (event.Called command moment reply) = ⊥
IsWriting (event.Taken upto again faults) = Unit {0}
IsWriting (event.Put written durable faults) = written ≡ true
IsWriting (event.Published edit) = ⊥

abbrev pub IsWritingMark : Entry → Type 0
IsWritingMark e = IsWriting e.event

-- The list went on, and the seat's worker took the journal and put it back, each block written, as often as it took it.
pub record Writes (s t : Seat) : Type 0 where
  pub more : List Entry
  pub marks : All IsWritingMark (own s.worker more)
  pub back : out (own s.worker (s.seen ++ more)) ≡ None
  pub same : t ≡ seat_with s (s.seen ++ more) false

-- The same, and then a call of the disk failed: the last entry is the worker's mark of that, its only failed one. The
-- worker had taken the journal once more, and the count of failed calls rose since that taking.
pub record Fails (s t : Seat) : Type 0 where
  pub more : List Entry
  pub marks : All IsWritingMark (own s.worker more)
  pub taking : Taking
  pub has : out (own s.worker (s.seen ++ more)) ≡ Some taking
  pub told : faults_told s.origin (s.seen ++ more) ≡ taking.faults
  pub durable : ℕ
  pub faults : ℕ
  pub same : t ≡ seat_with s ((s.seen ++ more) ++ put s.worker false durable faults ∷ []) false
  pub rose : Rose (faults_told s.origin (s.seen ++ more)) faults
  -- so it rose above what the seat had seen
  pub rose_in_call : Rose (faults_told s.origin s.seen) faults
