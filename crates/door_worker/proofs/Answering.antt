-- What is given for a message, and messages in a row.
use Rattle.std.proofs.Common.{◌≡◌, inl, ℕ, ◌+◌, ◌≤◌, ◌&&◌, cond, true, false, Bool, List, [], ◌∷◌, ◌++◌, length, refl, sym, ◌∙◌, ap, subst, arith, length-append, Option, Some, None, option_to_list, Result, Ok, Err}
use Rattle.std.specs.Prelude.{All, IfOk, IsTrue, OnErr}
use Rattle.std.proofs.lemmas.List.Elements.{All-append, All-cons, All-nil, filter_map-append}
use Rattle.auction_core.specs.Draft.{is_valid_command}
use Rattle.command_read.specs.Memory.{UnlessMemory}
use Rattle.command_read.specs.declared.fault.CommandFault.{CommandFault}
use Rattle.command_read.specs.declared.fault.CommandFault.TheVariants as unread
use Rattle.door_worker.specs.Answers.{Answered, Answers, AreDurable, ArePublished, Goes, IsDurable, IsPublished, IsRight, LeadsTo, calls_of, is_answer, is_edit, is_store_failed, request_of, store_failed}
use Rattle.door_worker.specs.Languages.{Language}
use Rattle.door_worker.specs.Working.{AnswersOne, Concludes, Entered, IsGivenFor, IsGivenUnread, IsKnown, IsTold, Tells, call_at}
use Rattle.door_worker.proofs.Going.{durable_now, durable_on, goes_called, goes_fails, goes_none, goes_on, goes_waits, published_on, worker_is}
use Rattle.exchange_shared.specs.Seats.{Calls, Fails, Seat, Waits, effects_in}
use Rattle.exchange_state.proofs.Owning.{count_append}
use Rattle.exchange_state.specs.declared.state.Settled.{Settled}
use Rattle.exchange_state.specs.Views.{stable}
use Rattle.http_wire.specs.declared.message.Message.{Message}
use Rattle.plain_exchange.specs.declared.commands.Command.{Command}
use Rattle.plain_exchange.specs.declared.commands.Command.TheVariants as command
use Rattle.plain_exchange.specs.declared.commands.Reply.{Reply}
use Rattle.plain_exchange.specs.History.{Call}
use Rattle.rtb_types.specs.declared.request.BidRequest.{BidRequest}
use Rattle.rtb_types.specs.Valid.{is_valid}
use Rattle.session.specs.declared.service.Given.{Given}
use Rattle.session.specs.declared.service.Given.TheVariants as given

-- ---- commands

-- what is read of a message can be asked
pub valid_as_read : {E : Type 0} (c : Command) → ((r : BidRequest) → ◌≡◌ {A = Result Command E} (Ok c) (Ok (command.Auction r)) → IsTrue (is_valid r)) → IsTrue (is_valid_command c)
valid_as_read (command.Auction r) h = h r refl
valid_as_read (command.Act a) h = refl

-- ---- a command

pub entered : {E : Type 0} (c : Command) (moment : ℕ) (s t : Seat) (r : Result Settled E) → IfOk r (Calls c moment s t) → IfOk r (Entered c moment s t)
entered c moment s t (Ok x) k = record { goes = goes_called s t c moment x.reply k.gains; upto = k.upto; durable = k.durable }
entered c moment s t (Err e) k = tt

pub not_entered : {T E : Type 0} (s t : Seat) (r : Result T E) → OnErr r (Waits s t) → OnErr r (Goes [] 0 s t)
not_entered s t (Ok x) w = tt
not_entered s t (Err e) w = goes_waits s t w

-- a turn before it found
pub entered_at : (c : Command) (moment : ℕ) (s m t : Seat) (x : Settled) → Goes [] 0 s m → Entered c moment m t x → Entered c moment s t x
entered_at c moment s m t x g e = record {
  goes = goes_on [] (call_at s.worker c moment x.reply ∷ []) 0 0 s m t g (subst (λ (w : ℕ). Goes (call_at w c moment x.reply ∷ []) 0 m t) (worker_is [] 0 s m g) e.goes);
  upto = e.upto;
  durable = e.durable;
}

pub entered_behind : {E : Type 0} (c : Command) (moment : ℕ) (s m t : Seat) (r : Result Settled E) → Goes [] 0 s m → IfOk r (Entered c moment m t) → IfOk r (Entered c moment s t)
entered_behind c moment s m t (Ok x) g e = entered_at c moment s m t x g e
entered_behind c moment s m t (Err f) g e = tt

pub not_entered_behind : {T E : Type 0} (s m t : Seat) (r : Result T E) → Goes [] 0 s m → OnErr r (Goes [] 0 m t) → OnErr r (Goes [] 0 s t)
not_entered_behind s m t (Ok x) f g = tt
not_entered_behind s m t (Err e) f g = goes_on [] [] 0 0 s m t f g

pub entered_later : {E : Type 0} (c : Command) (moment : ℕ) (s m t : Seat) (r : Result Settled E) → Waits s m → IfOk r (Entered c moment m t) → IfOk r (Entered c moment s t)
entered_later c moment s m t r w e = entered_behind c moment s m t r (goes_waits s m w) e

pub not_entered_later : {T E : Type 0} (s m t : Seat) (r : Result T E) → Waits s m → OnErr r (Goes [] 0 m t) → OnErr r (Goes [] 0 s t)
not_entered_later s m t r w g = not_entered_behind s m t r (goes_waits s m w) g

-- ---- one message

pub none_failed : (n : ℕ) → 0 + n ≡ n
none_failed n = omega arith

-- the effects are durable, and this is told of the reply
pub told : (language : Language) (command : Command) (reply : Reply) (s m t : Seat) (gave : Given) → Goes [] 0 s m → effects_in s.origin s.seen ≤ stable m.seen → Tells language command reply m gave t → IsKnown m t
    → Concludes language command reply s gave t
told language command reply s m t gave g le x known = record {
  given_is = by_given gave x.told;
  goes = not_failed gave x.told;
  durable = λ is. durable_on 0 [] 0 m t x.goes (durable_now 0 s m g le);
  published = x.published;
} where
  by_given : (gave : Given) → IsTold (request_of command) language reply gave → IsGivenFor language command reply gave
  by_given (given.Text answer entered) is = is
  by_given given.StoreFailed is = tt
  by_given given.MemoryLate is = tt
  by_given given.Memory is = is

  not_failed : (gave : Given) → IsTold (request_of command) language reply gave → Goes [] (cond (is_store_failed gave) 1 0) s t
  not_failed (given.Text answer entered) is = goes_on [] [] 0 0 s m t g x.goes
  not_failed given.StoreFailed is = absurd is
  not_failed given.MemoryLate is = goes_on [] [] 0 0 s m t g x.goes
  not_failed given.Memory is = absurd is

pub store_failed_told : (language : Language) (command : Command) (reply : Reply) (s t : Seat) → Fails s t → Concludes language command reply s given.StoreFailed t
store_failed_told language command reply s t f = record {
  given_is = tt;
  goes = goes_fails s t f;
  durable = λ is. absurd (cc is);
  published = λ is. absurd (cc is);
}

-- a command that has its call, and what is given for it
pub answered : (language : Language) (moment : ℕ) (command : Command) (message : Message) (settled : Settled) (s m t : Seat) (gave : Given) → language.Asks message (Ok command) → Goes (call_at s.worker command moment settled.reply ∷ []) 0 s m
    → Concludes language command settled.reply m gave t → IsKnown s t → AnswersOne language moment s message gave t
answered language moment command message settled s m t gave read e c known = record {
  call = Some (call_at s.worker command moment settled.reply);
  right = by_given gave c.given_is;
  goes = subst (λ (n : ℕ). Goes (call_at s.worker command moment settled.reply ∷ []) n s t) (none_failed (cond (is_store_failed gave) 1 0))
      (goes_on (call_at s.worker command moment settled.reply ∷ []) [] 0 (cond (is_store_failed gave) 1 0) s m t e c.goes);
  durable = c.durable;
  published = edited (is_answer gave) (is_edit command) c.published;
  known = known;
} where
  by_given : (gave : Given) → IsGivenFor language command settled.reply gave → LeadsTo language s.worker moment message gave (Some (call_at s.worker command moment settled.reply))
  by_given (given.Text answer true) (is, answer_is) = (record { read = read; worker = refl; moment_is = refl }, answer_is)
  by_given (given.Text answer false) (is, answer_is) = absurd (cc is)
  by_given given.StoreFailed is = record { read = read; worker = refl; moment_is = refl }
  by_given given.MemoryLate is = record { read = read; worker = refl; moment_is = refl }
  by_given given.Memory is = absurd is

  edited : (a b : Bool) → (a ≡ true → b ≡ true → IsPublished 0 t.worker t.origin t.seen) → a && b ≡ true → IsPublished 0 t.worker t.origin t.seen
  edited true b p is = p refl is
  edited false b p is = absurd (cc is)

-- a command for which memory was refused before its call
pub unanswered : (language : Language) (moment : ℕ) (message : Message) (s t : Seat) → Goes [] 0 s t → IsKnown s t → AnswersOne language moment s message given.Memory t
unanswered language moment message s t g known = record {
  call = None;
  right = tt;
  goes = g;
  durable = λ is. absurd (cc is);
  published = λ is. absurd (cc is);
  known = known;
}

-- what is read as no command
pub refused : (language : Language) (moment : ℕ) (message : Message) (s : Seat) (f : CommandFault) (gave : Given) → s.turn ≡ false → UnlessMemory (language.Asks message) (Err f) → IsGivenUnread f gave → AnswersOne language moment s message gave s
refused language moment message s (unread.Refused answer) gave free read is = subst (λ (g : Given). AnswersOne language moment s message g s) (sym is) (record {
  call = None;
  right = read;
  goes = goes_none s free;
  durable = λ no_call. absurd (cc no_call);
  published = λ no_call. absurd (cc no_call);
  known = inl refl;
})
refused language moment message s unread.Memory gave free read is = subst (λ (g : Given). AnswersOne language moment s message g s) (sym is)
    (unanswered language moment message s s (goes_none s free) (inl refl))

-- ---- messages in a row

pub answers_none : (language : Language) (s : Seat) → s.turn ≡ false → Answers language [] s s
answers_none language s free = record { right = All-nil (IsRight language s.worker); goes = goes_none s free; durable = tt; published = tt }

pub answers_one : (language : Language) (text : List ℕ) (moment : ℕ) (message : Message) (gave : Given) (s t : Seat) (one : AnswersOne language moment s message gave t)
    → Answers language (record { turn = record { message = message; given = gave; text = text }; moment = moment; call = one.call } ∷ []) s t
answers_one language text moment message gave s t one =
    let a : Answered = record { turn = record { message = message; given = gave; text = text }; moment = moment; call = one.call } in
    record {
      right = All-cons (IsRight language s.worker) a [] one.right (All-nil (IsRight language s.worker));
      goes = counted one.call (is_store_failed gave) one.goes;
      durable = (one.durable, tt);
      published = (one.published, tt);
    }
  where
    counted : (call : Option Call) (b : Bool) → Goes (option_to_list call) (cond b 1 0) s t
        → Goes (calls_of (record { turn = record { message = message; given = gave; text = text }; moment = moment; call = call } ∷ [])) (0 + cond b 1 0) s t
    counted (Some c) true g = g
    counted (Some c) false g = g
    counted None true g = g
    counted None false g = g

calls_then : (l m : List Answered) → calls_of (l ++ m) ≡ calls_of l ++ calls_of m
calls_then l m = filter_map-append (λ (a : Answered). a.call) l m

count_then : (l m : List Answered) → length (calls_of l) + length (calls_of m) ≡ length (calls_of (l ++ m))
count_then l m = sym (ap length (calls_then l m) ∙ length-append (calls_of l) (calls_of m))

durable_then : (i : ℕ) (l m : List Answered) (s t : Seat) → Goes (calls_of m) i s t → AreDurable l s.worker s.origin s.seen → AreDurable m t.worker t.origin t.seen → AreDurable (l ++ m) t.worker t.origin t.seen
durable_then i [] m s t g d e = e
durable_then i (a ∷ l) m s t g d e =
    (λ is. subst (λ (n : ℕ). IsDurable n t.worker t.origin t.seen) (count_then l m) (durable_on (length (calls_of l)) (calls_of m) i s t g (d.0 is)), durable_then i l m s t g d.1 e)

published_then : (i : ℕ) (l m : List Answered) (s t : Seat) → Goes (calls_of m) i s t → ArePublished l s.worker s.origin s.seen → ArePublished m t.worker t.origin t.seen → ArePublished (l ++ m) t.worker t.origin t.seen
published_then i [] m s t g d e = e
published_then i (a ∷ l) m s t g d e =
    (λ is. subst (λ (n : ℕ). IsPublished n t.worker t.origin t.seen) (count_then l m) (published_on (length (calls_of l)) (calls_of m) i s t g (d.0 is)), published_then i l m s t g d.1 e)

pub answers_then : (language : Language) (l m : List Answered) (s t u : Seat) → Answers language l s t → Answers language m t u → IsKnown t u → Answers language (l ++ m) s u
answers_then language l m s t u a b known = record {
  right = All-append (IsRight language s.worker) l m a.right (subst (λ (w : ℕ). All (IsRight language w) m) (worker_is (calls_of l) (store_failed l) s t a.goes) b.right);
  goes = subst (λ (c : List Call). Goes c (store_failed (l ++ m)) s u) (sym (calls_then l m))
      (subst (λ (n : ℕ). Goes (calls_of l ++ calls_of m) n s u) (sym (count_append (λ (x : Answered). is_store_failed x.turn.given) l m))
      (goes_on (calls_of l) (calls_of m) (store_failed l) (store_failed m) s t u a.goes b.goes));
  durable = durable_then (store_failed m) l m t u b.goes a.durable b.durable;
  published = published_then (store_failed m) l m t u b.goes a.published b.published;
}
