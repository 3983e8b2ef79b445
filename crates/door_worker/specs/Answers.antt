-- What the messages of a door lead to. Each command leads to one call of the door's worker, which stands in the list of
-- the exchange, and what is no command to none.
use Rattle.std.specs.Prelude.{◌≡◌, ℕ, ◌+◌, ◌<◌, ◌≤◌, ◌&&◌, Bool, true, false, List, [], ◌∷◌, ◌++◌, All, count_by, length, Option, None, Some, Ok, Err, ⊤}
use Rattle.std.specs.List.{filter_map}
use Rattle.std.specs.Option.{option_map_or}
use Rattle.door_worker.specs.Languages.{Language}
use Rattle.exchange_shared.specs.Seats.{Seat, effects_in}
use Rattle.exchange_state.specs.declared.entries.Entry.{Entry}
use Rattle.exchange_state.specs.declared.entries.Origin.{Origin}
use Rattle.exchange_state.specs.Tickets.{edits_after}
use Rattle.exchange_state.specs.Views.{calls, failed, mine, published, stable}
use Rattle.hist_lock.specs.Views.{seat_with}
use Rattle.http_wire.specs.declared.message.Message.{Message}
use Rattle.plain_exchange.specs.declared.commands.Act.{Act}
use Rattle.plain_exchange.specs.declared.commands.Act.TheVariants as act
use Rattle.plain_exchange.specs.declared.commands.Command.{Command}
use Rattle.plain_exchange.specs.declared.commands.Command.TheVariants as command
use Rattle.plain_exchange.specs.History.{Call}
use Rattle.rtb_types.specs.declared.request.BidRequest.{BidRequest}
use Rattle.session.specs.declared.service.Given.{Given}
use Rattle.session.specs.declared.service.Given.TheVariants as given
use Rattle.session.specs.Talk.{Turn}

-- ---- commands

-- the request of an auction
abbrev pub request_of : Command → Option BidRequest
request_of (command.Auction r) = Some r
request_of (command.Act a) = None

-- whether it edits the campaigns
abbrev pub edits : Act → Bool
edits (act.Add facts expr) = true
edits (act.Change n facts expr) = true
edits (act.Pause n) = true
edits (act.Resume n) = true
edits (act.Bill n) = false
edits (act.Lose n) = false
edits (act.Forget keep) = false
edits (act.Look l) = false

abbrev pub is_edit : Command → Bool
is_edit (command.Auction r) = false
is_edit (command.Act a) = edits a

-- ---- one message

-- the message asks for the call's command, and the call is worker w's at the moment
pub record IsCallOf (language : Language) (w moment : ℕ) (message : Message) (call : Call) : Type 0 where
  pub read : language.Asks message (Ok call.command)
  pub worker : call.worker ≡ w
  pub moment_is : call.moment ≡ moment

-- What a message leads to, in the language. A command has its call, and what
-- is given is the answer of the call's reply, or tells that the store failed, or that memory was refused behind the
-- call. What is no command has its refusal and no call, and so has a message for which memory was refused before.
abbrev pub LeadsTo : Language → ℕ → ℕ → Message → Given → Option Call → Type 0
LeadsTo language w moment message (given.Text answer true) (Some call) =
    IsCallOf language w moment message call × (answer ≡ language.says (request_of call.command) call.reply)
LeadsTo language w moment message (given.Text answer true) None = ⊥
LeadsTo language w moment message (given.Text answer false) (Some call) = ⊥
LeadsTo language w moment message (given.Text answer false) None = language.Asks message (Err answer)
LeadsTo language w moment message given.StoreFailed (Some call) = IsCallOf language w moment message call
LeadsTo language w moment message given.StoreFailed None = ⊥
LeadsTo language w moment message given.MemoryLate (Some call) = IsCallOf language w moment message call
LeadsTo language w moment message given.MemoryLate None = ⊥
LeadsTo language w moment message given.Memory (Some call) = ⊥
LeadsTo language w moment message given.Memory None = ⊤

-- it tells of a call, whose effects are durable then
abbrev pub tells : Given → Bool
tells (given.Text answer entered) = entered
tells given.StoreFailed = false
tells given.Memory = false
tells given.MemoryLate = true

-- it is the answer of a call
abbrev pub is_answer : Given → Bool
is_answer (given.Text answer entered) = entered
is_answer given.StoreFailed = false
is_answer given.Memory = false
is_answer given.MemoryLate = false

abbrev pub is_store_failed : Given → Bool
is_store_failed (given.Text answer entered) = false
is_store_failed given.StoreFailed = true
is_store_failed given.Memory = false
is_store_failed given.MemoryLate = false

-- ---- the messages of a door

-- a message that was taken, with what was given for it and its text; the moment at which it was taken up; and the call
-- that it led to, where it did
pub record Answered : Type 0 where
  pub turn : Turn
  pub moment : ℕ
  pub call : Option Call

abbrev pub IsRight : Language → ℕ → Answered → Type 0
IsRight language w a = LeadsTo language w a.moment a.turn.message a.turn.given a.call

-- the calls that they led to
abbrev pub calls_of : List Answered → List Call
calls_of all = filter_map (λ (a : Answered). a.call) all

-- how many were told that the store failed
abbrev pub store_failed : List Answered → ℕ
store_failed all = count_by (λ (a : Answered). is_store_failed a.turn.given) all

-- an edit was answered
abbrev pub is_edited : Given → Option Call → Bool
is_edited gave call = is_answer gave && option_map_or (λ (c : Call). is_edit c.command) call false

-- ---- what stands in the list of a seat

-- Of its worker the seat's list gained these calls, in order, and so many failed marks of the journal.
pub record Goes (came : List Call) (failures : ℕ) (s t : Seat) : Type 0 where
  pub more : List Entry
  pub same : t ≡ seat_with s (s.seen ++ more) false
  pub calls_are : mine s.worker (calls more) ≡ came
  pub failures_are : failed more s.worker ≡ failures

-- ---- a worker in the list of the exchange

-- In the list l from the origin o, the effects of all but what comes with the last calls of worker w, so many, were
-- durable when the first of those calls came.
pub record IsDurable (last w : ℕ) (o : Origin) (l : List Entry) : Type 0 where
  pub front : List Entry
  pub between : List Entry
  pub behind : List Entry
  pub split : l ≡ (front ++ between) ++ behind
  pub none : mine w (calls between) ≡ []
  pub others : length (mine w (calls behind)) ≡ last
  pub durable : effects_in o front ≤ stable (front ++ between)

-- Of the edits of all but what comes with the last calls of worker w, so many, fewer than 2,048 were not in the version
-- that was present when the first of those calls came.
pub record IsPublished (last w : ℕ) (o : Origin) (l : List Entry) : Type 0 where
  pub front : List Entry
  pub between : List Entry
  pub behind : List Entry
  pub split : l ≡ (front ++ between) ++ behind
  pub none : mine w (calls between) ≡ []
  pub others : length (mine w (calls behind)) ≡ last
  pub few : edits_after o (calls front) < published o (front ++ between) + 2048

-- Behind each message that was told of its call, and before its worker's next call, the call's effects were durable.
abbrev pub AreDurable : List Answered → ℕ → Origin → List Entry → Type 0
AreDurable [] w o l = ⊤
AreDurable (a ∷ all) w o l = (tells a.turn.given ≡ true → IsDurable (length (calls_of all)) w o l) × AreDurable all w o l

-- Behind each edit that was answered, and before its worker's next call, fewer than 2,048 of the edits up to it were not
-- in the present version.
abbrev pub ArePublished : List Answered → ℕ → Origin → List Entry → Type 0
ArePublished [] w o l = ⊤
ArePublished (a ∷ all) w o l = (is_edited a.turn.given a.call ≡ true → IsPublished (length (calls_of all)) w o l) × ArePublished all w o l

-- The messages were answered one after the other by the worker of the seat s, which is t now.
pub record Answers (language : Language) (all : List Answered) (s t : Seat) : Type 0 where
  pub right : All (IsRight language s.worker) all
  pub goes : Goes (calls_of all) (store_failed all) s t
  pub durable : AreDurable all t.worker t.origin t.seen
  pub published : ArePublished all t.worker t.origin t.seen
