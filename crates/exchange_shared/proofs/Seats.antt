-- What a seat knows after a turn.
use Rattle.std.proofs.Common.{◌≡◌, ℕ, false, List, [], ◌∷◌, ◌++◌, refl, sym, ◌∙◌, ap, subst, None}
use Rattle.std.proofs.lemmas.List.{append-nil}
use Rattle.std.proofs.lemmas.List.Sums.{fold-append}
use Rattle.atomic_table.specs.Seated.{TableId}
use Rattle.hist_lock.proofs.Logs.{entries_of-append, entries_of-own}
use Rattle.hist_lock.specs.Views.{Enters, SplitsOff, TakesIn, seat_with}
use Rattle.exchange_shared.specs.Seats.{Calls, Gains, IsOrdered, MayCall, Seat, Waits, effects_in, worker_of}
use Rattle.exchange_state.specs.declared.entries.Entry.{Entry}
use Rattle.exchange_state.specs.declared.entries.Origin.{Origin}
use Rattle.exchange_state.specs.declared.state.ExchangeState.{ExchangeState}
use Rattle.exchange_state.specs.declared.state.Settled.{Settled}
use Rattle.exchange_state.specs.Settling.{Enters as IsEntered}
use Rattle.exchange_state.specs.Standing.{StandsFor}
use Rattle.exchange_state.specs.Tickets.{IsLegalFrom}
use Rattle.exchange_state.specs.Views.{called, calls, durable_of, out, out_of, own, stable, told_or}
use Rattle.plain_exchange.specs.declared.commands.Command.{Command}
use Rattle.plain_exchange.specs.declared.commands.Reply.{Reply}
use Rattle.rtb_disk.specs.declared.disk.Disk.{Ghosts}

-- ---- entries of a worker

pub own_append : (w : ℕ) (a b : List Entry) → own w (a ++ b) ≡ own w a ++ own w b
own_append w a b = entries_of-append worker_of w a b

pub own_one : (w : ℕ) (e : Entry) → e.worker ≡ w → own w (e ∷ []) ≡ e ∷ []
own_one w e is = entries_of-own worker_of w e is

-- the list went on by entries of others
pub own_others : (w : ℕ) (l more : List Entry) → own w more ≡ [] → own w (l ++ more) ≡ own w l
own_others w l more none = own_append w l more ∙ ap (λ m. own w l ++ m) none ∙ append-nil (own w l)

-- and then by one of this worker
pub own_gains : (w : ℕ) (l more : List Entry) (e : Entry) → own w more ≡ [] → e.worker ≡ w → own w ((l ++ more) ++ e ∷ []) ≡ own w l ++ e ∷ []
own_gains w l more e none is = own_append w (l ++ more) (e ∷ []) ∙ ap (λ m. m ++ own w (e ∷ [])) (own_others w l more none) ∙ ap (λ m. own w l ++ m) (own_one w e is)

pub out_then : (l : List Entry) (e : Entry) → out (l ++ e ∷ []) ≡ told_or out_of (out l) e
out_then l e = fold-append (told_or out_of) None l (e ∷ [])

-- ---- turns

pub waits : (s t u : Seat) → Enters worker_of s t → u ≡ seat_with t t.seen false → Waits s u
waits s t u (rest, is, none) left = record {
  more = rest;
  others = none;
  same = left ∙ ap (λ (v : Seat). seat_with v v.seen false) is;
}

pub gains : (e : Entry) (s t u : Seat) → Enters worker_of s t → u ≡ seat_with t (t.seen ++ e ∷ []) false → Gains e s u
gains e s t u (rest, is, none) left = record {
  more = rest;
  others = none;
  same = left ∙ ap (λ (v : Seat). seat_with v (v.seen ++ e ∷ []) false) is;
}

pub worker_stays : (s t : Seat) → Enters worker_of s t → t.worker ≡ s.worker
worker_stays s t (rest, is, none) = ap (λ (v : Seat). v.worker) is

may_call_as : (here : TableId) (s t : Seat) (l : List Entry) → MayCall here s → t ≡ seat_with s l false → out (own s.worker l) ≡ None → MayCall here t
may_call_as here s t l may is none = subst (MayCall here) (sym is) (record { lock = may.lock; free = refl; no_journal = none })

pub still : (here : TableId) (s t : Seat) → MayCall here s → Waits s t → MayCall here t
still here s t may w = may_call_as here s t (s.seen ++ w.more) may w.same (ap out (own_others s.worker s.seen w.more w.others) ∙ may.no_journal)

-- an entry after which the journal is not out, where it was not before
pub still_gains : (here : TableId) (e : Entry) (s t : Seat) → e.worker ≡ s.worker → told_or out_of None e ≡ None → MayCall here s → Gains e s t → MayCall here t
still_gains here e s t is none may w = may_call_as here s t ((s.seen ++ w.more) ++ e ∷ []) may w.same
    (ap out (own_gains s.worker s.seen w.more e w.others is) ∙ out_then (own s.worker s.seen) e ∙ ap (λ o. told_or out_of o e) may.no_journal ∙ none)

-- a call leaves the count of durable effects
stable_called : (l : List Entry) (w : ℕ) (command : Command) (moment : ℕ) (reply : Reply) → stable (l ++ called w command moment reply ∷ []) ≡ stable l
stable_called l w command moment reply = fold-append (told_or durable_of) 0 l (called w command moment reply ∷ [])

module _ {D : Type 0} {G : Ghosts D} where
  -- the command was entered on the list that the turn began with
  pub calls_with : (x : ExchangeState D G) (command : Command) (moment : ℕ) (s t u : Seat) (settled : Settled) → Enters worker_of s t → IsEntered t.origin t.seen t.worker command moment x settled
      → u ≡ seat_with t (t.seen ++ called t.worker command moment settled.reply ∷ []) false → Calls command moment s u settled
  calls_with x command moment s t u settled en is left =
      let by : t.worker ≡ s.worker = worker_stays s t en in
      record {
        gains = subst (λ w. Gains (called w command moment settled.reply) s u) by (gains (called t.worker command moment settled.reply) s t u en left);
        legal = subst (λ (z : Seat). IsLegalFrom z.origin (calls z.seen)) (sym left) is.stands.legal;
        upto = subst (λ (z : Seat). settled.upto ≡ effects_in z.origin z.seen) (sym left) is.upto;
        durable = is.durable ∙ sym (stable_called t.seen t.worker command moment settled.reply) ∙ sym (ap (λ (z : Seat). stable z.seen) left);
      }

-- ---- the order of marks

-- a seat that has this list and no turn
pub ordered_on : (t u : Seat) (l : List Entry) → IsOrdered t.origin l → u ≡ seat_with t l false → IsOrdered u.origin u.seen
ordered_on t u l o left = subst (λ (y : Seat). IsOrdered y.origin y.seen) (sym left) o

module _ {D : Type 0} {G : Ghosts D} where
  -- what is lent of the turn's box stands as what lies in it
  pub lent : (o : Origin) (l : List Entry) (x y : ExchangeState D G) → x ≡ y → StandsFor o y l → StandsFor o x l
  lent o l x y is s = subst (λ (z : ExchangeState D G). StandsFor o z l) (sym is) s

  pub ordered : (o : Origin) (x : ExchangeState D G) (l : List Entry) → StandsFor o x l → IsOrdered o l
  ordered o x l s = record { in_turn = s.in_turn; rising = s.rising }

  pub ordered_at : (x : ExchangeState D G) (t u : Seat) (l : List Entry) → StandsFor t.origin x l → u ≡ seat_with t l false → IsOrdered u.origin u.seen
  ordered_at x t u l s left = ordered_on t u l (ordered t.origin x l s) left

-- ---- split and join

pub split_may : (here : TableId) (s t n : Seat) → MayCall here s → SplitsOff worker_of s t n → MayCall here t × MayCall here n
split_may here s t n may p = (
  subst (MayCall here) (sym p.0) (record { lock = may.lock; free = may.free; no_journal = may.no_journal }),
  subst (MayCall here) (sym p.1) (record { lock = may.lock; free = refl; no_journal = ap out p.2 }),
)

pub join_may : (here : TableId) (a b t : Seat) → MayCall here a → TakesIn worker_of a b t → MayCall here t
join_may here a b t may j = record {
  lock = j.lock ∙ may.lock;
  free = j.turn;
  no_journal = ap (λ n. out (own n t.seen)) j.number ∙ ap out j.own ∙ may.no_journal;
}
