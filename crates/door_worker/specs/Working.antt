-- Only private clauses cite this file. What comes of one message, and what a door holds while its links are served.
use Rattle.std.specs.Prelude.{◌≡◌, ◌⊎◌, ℕ, cond, true, false, List, [], ◌∷◌, Option, None, Some, map, option_map, option_to_list, ⊤}
use Rattle.atomic_table.specs.Seated.{TableId}
use Rattle.command_read.specs.declared.fault.CommandFault.{CommandFault}
use Rattle.command_read.specs.declared.fault.CommandFault.TheVariants as unread
use Rattle.door_worker.specs.Answers.{Answered, Answers, Goes, IsDurable, IsPublished, LeadsTo, is_answer, is_edit, is_edited, is_store_failed, request_of, tells}
use Rattle.door_worker.specs.Doors.{HasTalk, IsNow, ServesDoor, TakesMoments}
use Rattle.door_worker.specs.Languages.{Language}
use Rattle.exchange_shared.specs.Seats.{Seat, effects_in}
use Rattle.exchange_state.specs.declared.state.Settled.{Settled}
use Rattle.exchange_state.specs.Views.{IsRising, stable}
use Rattle.http_wire.specs.declared.message.Message.{Message}
use Rattle.link_door.specs.Doors.{Held, with_later}
use Rattle.link_door.specs.declared.link.Link.{Ghosts}
use Rattle.plain_exchange.specs.declared.commands.Command.{Command}
use Rattle.plain_exchange.specs.declared.commands.Reply.{Reply}
use Rattle.plain_exchange.specs.History.{Call}
use Rattle.rtb_types.specs.declared.request.BidRequest.{BidRequest}
use Rattle.session.specs.declared.service.Given.{Given}
use Rattle.session.specs.declared.service.Given.TheVariants as given
use Rattle.session.specs.Talk.{Turn}

-- ---- one message

abbrev pub call_at : ℕ → Command → ℕ → Reply → Call
call_at worker command moment reply = record { worker = worker; command = command; moment = moment; reply = reply }

-- it is the same seat still, or nothing falls along its list that its marks tell
abbrev pub IsKnown : Seat → Seat → Type 0
IsKnown s t = (t ≡ s) ⊎ IsRising t.origin t.seen

-- the command has its call, so many effects stand with it, and so many were durable then
pub record Entered (command : Command) (moment : ℕ) (s t : Seat) (settled : Settled) : Type 0 where
  pub goes : Goes (call_at s.worker command moment settled.reply ∷ []) 0 s t
  pub upto : settled.upto ≡ effects_in t.origin t.seen
  pub durable : settled.durable ≡ stable t.seen

-- what is given for the reply to a command whose effects are durable
abbrev pub IsTold : Option BidRequest → Language → Reply → Given → Type 0
IsTold request language reply (given.Text answer entered) = (entered ≡ true) × (answer ≡ language.says request reply)
IsTold request language reply given.StoreFailed = ⊥
IsTold request language reply given.MemoryLate = ⊤
IsTold request language reply given.Memory = ⊥

-- and, for an edit, once a version was published where one is due
pub record Tells (language : Language) (command : Command) (reply : Reply) (s : Seat) (gave : Given) (t : Seat) : Type 0 where
  pub told : IsTold (request_of command) language reply gave
  pub goes : Goes [] 0 s t
  pub published : is_answer gave ≡ true → is_edit command ≡ true → IsPublished 0 t.worker t.origin t.seen

-- the same, or the store failed
abbrev pub IsGivenFor : Language → Command → Reply → Given → Type 0
IsGivenFor language command reply (given.Text answer entered) = IsTold (request_of command) language reply (given.Text answer entered)
IsGivenFor language command reply given.StoreFailed = ⊤
IsGivenFor language command reply given.MemoryLate = ⊤
IsGivenFor language command reply given.Memory = ⊥

-- behind the call of the command no other came, and this was given
pub record Concludes (language : Language) (command : Command) (reply : Reply) (s : Seat) (gave : Given) (t : Seat) : Type 0 where
  pub given_is : IsGivenFor language command reply gave
  pub goes : Goes [] (cond (is_store_failed gave) 1 0) s t
  pub durable : tells gave ≡ true → IsDurable 0 t.worker t.origin t.seen
  pub published : is_answer gave ≡ true → is_edit command ≡ true → IsPublished 0 t.worker t.origin t.seen

-- what is given for a message that is read as no command
abbrev pub IsGivenUnread : CommandFault → Given → Type 0
IsGivenUnread (unread.Refused answer) gave = gave ≡ given.Text answer false
IsGivenUnread unread.Memory gave = gave ≡ given.Memory

-- the message, taken up at the moment, was answered so by the worker of the seat s, which is t now
pub record AnswersOne (language : Language) (moment : ℕ) (s : Seat) (message : Message) (gave : Given) (t : Seat) : Type 0 where
  pub call : Option Call
  pub right : LeadsTo language s.worker moment message gave call
  pub goes : Goes (option_to_list call) (cond (is_store_failed gave) 1 0) s t
  pub durable : tells gave ≡ true → IsDurable 0 t.worker t.origin t.seen
  pub published : is_edited gave call ≡ true → IsPublished 0 t.worker t.origin t.seen
  pub known : IsKnown s t

-- ---- the worker

-- the name of its exchange's lock, and its seat, which it lacks only while a call has it
pub record Post : Type 0 where
  pub here : TableId
  pub seat : Option Seat

abbrev pub AnswersBy : Language → ℕ → Option Seat → Message → Given → Option Seat → Type 0
AnswersBy language moment None message gave after = ⊤
AnswersBy language moment (Some s) message gave after = (t : Seat) × (after ≡ Some t) × AnswersOne language moment s message gave t

-- the moments that a door tells
abbrev pub moments_of : {L : Type 0} → Option (Held L) → Option (List ℕ)
moments_of {L} held = option_map (λ (h : Held L). h.moments) held

-- the message was taken up at the door's next moment
pub record Works {L : Type 0} (language : Language) (seat : Option Seat) (held : Option (Held L)) (message : Message) (gave : Given) (seat' : Option Seat) (held' : Option (Held L)) : Type 0 where
  pub moment : ℕ
  pub now : IsNow (moments_of held) moment
  pub answers : AnswersBy language moment seat message gave seat'
  pub held_is : held' ≡ option_map with_later held

-- ---- what a door holds

-- all but the moments is the same
pub record SameLinks {L : Type 0} (old new : Held L) : Type 0 where
  pub left : new.left ≡ old.left
  pub served : new.served ≡ old.served
  pub out : new.out ≡ old.out

abbrev pub KeepsLinks : {L : Type 0} → Option (Held L) → Option (Held L) → Type 0
KeepsLinks None new = ⊤
KeepsLinks {L} (Some old) new = (held : Held L) × (new ≡ Some held) × SameLinks old held

-- ---- a link, and a door

-- What came of a run of messages: these were answered, each at the door's next moment, and the seat is that one now.
pub record Talked {L : Type 0} (language : Language) (turns : List Turn) (s : Seat) (held : Option (Held L)) (seat : Option Seat) (held' : Option (Held L)) : Type 0 where
  pub all : List Answered
  pub turns_are : map (λ (a : Answered). a.turn) all ≡ turns
  pub now : Seat
  pub seat_is : seat ≡ Some now
  pub answers : Answers language all s now
  pub known : IsKnown s now
  pub moments : TakesMoments (moments_of held) all (moments_of held')
  pub links : KeepsLinks held held'

-- the worker has its seat, without the turn
pub record IsAt (p : Post) : Type 0 where
  pub seat : Seat
  pub has : p.seat ≡ Some seat
  pub free : seat.turn ≡ false

module _ {L : Type 0} (K : Ghosts L) (language : Language) where
  -- the messages of the link were answered
  pub record TalksOn (p : Post) (held : Option (Held L)) (link after : L) (q : Post) (held' : Option (Held L)) : Type 0 where
    pub seat : Seat
    pub has : p.seat ≡ Some seat
    pub turns : List Turn
    pub talk : HasTalk K language link after turns
    pub talked : Talked language turns seat held q.seat held'

  -- links of the door were served
  pub record ServesAt (p : Post) (held : Option (Held L)) (q : Post) (held' : Option (Held L)) : Type 0 where
    pub seat : Seat
    pub has : p.seat ≡ Some seat
    pub now : Seat
    pub has_now : q.seat ≡ Some now
    pub served : ServesDoor K language seat held now held'
    pub known : IsKnown seat now
