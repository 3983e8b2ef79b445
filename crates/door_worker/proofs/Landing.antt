-- What is given for an edit that is written before it is carried out.
use Rattle.std.proofs.Common.{◌≡◌, inr, ℕ, ◌≤◌, cond, true, false, Bool, List, [], ◌∷◌, ◌++◌, refl, sym, ◌∙◌, ap, subst, arith, option_to_list, Ok}
use Rattle.std.proofs.lemmas.List.Sums.{fold-append}
use Rattle.door_worker.specs.Answers.{Goes, LeadsTo, is_store_failed}
use Rattle.door_worker.specs.Languages.{Language}
use Rattle.door_worker.specs.Working.{AnswersOne, Tells, call_at}
use Rattle.door_worker.proofs.Answering.{answered, none_failed, told}
use Rattle.door_worker.proofs.Going.{goes_called_by, goes_on, goes_put, goes_taken, goes_waits, known_then, worker_is}
use Rattle.exchange_shared.specs.Seats.{Lands, Seat, Waits, effects_in}
use Rattle.exchange_state.specs.declared.entries.Entry.{Entry}
use Rattle.exchange_state.specs.declared.state.Settled.{Settled}
use Rattle.exchange_state.specs.Views.{IsRising, durable_of, put, stable, told_or}
use Rattle.http_wire.specs.declared.message.Message.{Message}
use Rattle.plain_exchange.specs.declared.commands.Command.{Command}
use Rattle.session.specs.declared.service.Given.{Given}
use Rattle.session.specs.declared.service.Given.TheVariants as given

-- ---- one that was carried out

-- the journal was taken, and the edit has its call
lands_entered : (c : Command) (moment : ℕ) (s t : Seat) (x : Settled) (written : Bool) → (l : Lands c moment s t x written) → Goes (call_at s.worker c moment x.reply ∷ []) 0 s l.calling
lands_entered c moment s t x written l =
    let took : Goes [] 0 s l.taking = goes_taken l.end l.faults s l.taking l.taken_is in
    let by : s.worker ≡ l.taking.worker = sym (worker_is [] 0 s l.taking took) in
    goes_on [] (call_at s.worker c moment x.reply ∷ []) 0 0 s l.taking l.calling took (goes_called_by s.worker l.taking l.calling c moment x.reply by l.called_is)

-- and then the journal was put back
lands_put : (c : Command) (moment : ℕ) (s t : Seat) (x : Settled) (written : Bool) → (l : Lands c moment s t x written) → Goes [] (cond written 0 1) l.calling t
lands_put c moment s t x written l =
    let e = lands_entered c moment s t x written l in
    goes_put s.worker written l.durable l.count l.calling t (sym (worker_is (call_at s.worker c moment x.reply ∷ []) 0 s l.calling e)) l.put_is

stable_put : (l : List Entry) (w : ℕ) (written : Bool) (durable faults : ℕ) → stable (l ++ put w written durable faults ∷ []) ≡ durable
stable_put l w written durable faults = fold-append (told_or durable_of) 0 l (put w written durable faults ∷ [])

-- with its block written all effects up to the call are durable
lands_durable : (c : Command) (moment : ℕ) (s t : Seat) (x : Settled) → (l : Lands c moment s t x true) → effects_in l.calling.origin l.calling.seen ≤ stable t.seen
lands_durable c moment s t x l =
    let last : stable t.seen ≡ l.durable = ap (λ (u : Seat). stable u.seen) l.put_is.same ∙ stable_put (l.calling.seen ++ l.put_is.more) s.worker true l.durable l.count in
    let there : l.durable ≡ x.upto = l.there refl in
    let upto : x.upto ≡ effects_in l.calling.origin l.calling.seen = l.upto in
    omega (arith, last, there, upto)

-- ---- what is given

-- this is told of one that is durable
pub answered_durable : (language : Language) (moment : ℕ) (c : Command) (message : Message) (x : Settled) (s m t : Seat) (gave : Given) → language.Asks message (Ok c) → Lands c moment s m x true → Tells language c x.reply m gave t → IsRising t.origin t.seen
    → AnswersOne language moment s message gave t
answered_durable language moment c message x s m t gave read l tells rising =
    answered language moment c message x s l.calling t gave read (lands_entered c moment s m x true l)
    (told language c x.reply l.calling m t gave (lands_put c moment s m x true l) (lands_durable c moment s m x l) tells (inr rising)) (inr rising)

-- a call of the disk failed
pub answered_failed : (language : Language) (moment : ℕ) (c : Command) (message : Message) (x : Settled) (s t : Seat) → language.Asks message (Ok c) → Lands c moment s t x false → IsRising t.origin t.seen → AnswersOne language moment s message given.StoreFailed t
answered_failed language moment c message x s t read l rising =
    answered language moment c message x s l.calling t given.StoreFailed read (lands_entered c moment s t x false l)
    (record { given_is = tt; goes = lands_put c moment s t x false l; durable = λ no. absurd (cc no); published = λ no. absurd (cc no) }) (inr rising)

-- it could not go ahead, and is answered in turn
pub answered_behind : (language : Language) (moment : ℕ) (message : Message) (gave : Given) (s m t : Seat) → Waits s m → IsRising m.origin m.seen → AnswersOne language moment m message gave t → AnswersOne language moment s message gave t
answered_behind language moment message gave s m t w rising one =
    let g : Goes [] 0 s m = goes_waits s m w in
    record {
      call = one.call;
      right = subst (λ (v : ℕ). LeadsTo language v moment message gave one.call) (worker_is [] 0 s m g) one.right;
      goes = subst (λ (n : ℕ). Goes (option_to_list one.call) n s t) (none_failed (cond (is_store_failed gave) 1 0))
          (goes_on [] (option_to_list one.call) 0 (cond (is_store_failed gave) 1 0) s m t g one.goes);
      durable = one.durable;
      published = one.published;
      known = known_then s m t (inr rising) one.known;
    }
