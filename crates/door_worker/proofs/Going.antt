-- What a call on a seat makes of its list, in the words of a conversation.
use Rattle.std.proofs.Common.{◌≡◌, inl, inr, ℕ, ◌+◌, ◌≤◌, ◌<◌, cond, false, true, Bool, not, List, [], ◌∷◌, ◌++◌, length, refl, sym, ◌∙◌, ap, subst, arith, append_assoc, length-append, Result, Ok, Err}
use Rattle.std.specs.Prelude.{All, IfOk, OnErr}
use Rattle.std.proofs.lemmas.List.{append-nil}
use Rattle.std.proofs.lemmas.List.Elements.{All-head, All-tail, filter_map-append}
use Rattle.std.proofs.lemmas.List.Sums.{fold-append}
use Rattle.door_worker.specs.Answers.{Goes, IsDurable, IsPublished}
use Rattle.door_worker.specs.Working.{IsKnown, call_at}
use Rattle.exchange_shared.proofs.Seats.{own_append, own_gains, own_one}
use Rattle.exchange_shared.specs.Seats.{Fails, Gains, IsWriting, IsWritingMark, Publishes, Seat, Waits, Writes, effects_in}
use Rattle.exchange_state.proofs.Owning.{count_append, failed_append, failed_own, mine_append, mine_own}
use Rattle.exchange_state.specs.declared.entries.Entry.{Entry}
use Rattle.exchange_state.specs.declared.entries.Event.{Event}
use Rattle.exchange_state.specs.declared.entries.Event.TheVariants as event
use Rattle.exchange_state.specs.declared.entries.Origin.{Origin}
use Rattle.exchange_state.specs.declared.state.Published.{Published}
use Rattle.exchange_state.specs.declared.state.Published.TheVariants as answer
use Rattle.exchange_state.specs.Tickets.{edits_after}
use Rattle.exchange_state.specs.Views.{IsRising, Window, call_of, called, calls, failed, failures, is_failure, mine, own, published, published_at, put, stable, taken, window_by}
use Rattle.hist_lock.specs.Views.{seat_with}
use Rattle.plain_exchange.specs.declared.commands.Command.{Command}
use Rattle.plain_exchange.specs.declared.commands.Reply.{Reply}
use Rattle.plain_exchange.specs.Effects.{edits}
use Rattle.plain_exchange.specs.History.{Call}

-- ---- the list went on, and then went on again

goes_at : (c d : List Call) (i j : ℕ) (s t : Seat) (l : List Entry) → mine s.worker (calls l) ≡ c → failed l s.worker ≡ i
    → Goes d j (seat_with s (s.seen ++ l) false) t → Goes (c ++ d) (i + j) s t
goes_at c d i j s t l mine_are failed_are g = record {
  more = l ++ g.more;
  same = g.same ∙ ap (λ (k : List Entry). seat_with s k false) (append_assoc s.seen l g.more);
  calls_are = mine_append s.worker l g.more ∙ ap (λ (k : List Call). k ++ mine s.worker (calls g.more)) mine_are ∙ ap (λ (k : List Call). c ++ k) g.calls_are;
  failures_are = failed_append s.worker l g.more ∙ ap (λ (k : ℕ). k + failed g.more s.worker) failed_are ∙ ap (λ (k : ℕ). i + k) g.failures_are;
}

pub goes_on : (c d : List Call) (i j : ℕ) (s m t : Seat) → Goes c i s m → Goes d j m t → Goes (c ++ d) (i + j) s t
goes_on c d i j s m t g h = goes_at c d i j s t g.more g.calls_are g.failures_are (subst (λ (u : Seat). Goes d j u t) g.same h)

pub goes_none : (s : Seat) → s.turn ≡ false → Goes [] 0 s s
goes_none s free = record {
  more = [];
  same = ap (λ (b : Bool). seat_with s s.seen b) free ∙ ap (λ (l : List Entry). seat_with s l false) (sym (append-nil s.seen));
  calls_are = refl;
  failures_are = refl;
}

-- ---- what each call says

pub goes_waits : (s t : Seat) → Waits s t → Goes [] 0 s t
goes_waits s t w = record {
  more = w.more;
  same = w.same;
  calls_are = mine_own s.worker w.more ∙ ap calls w.others;
  failures_are = failed_own s.worker w.more ∙ ap failures w.others;
}

goes_gains : (e : Entry) (came : List Call) (n : ℕ) (s t : Seat) → e.worker ≡ s.worker → calls (e ∷ []) ≡ came → failures (e ∷ []) ≡ n → Gains e s t → Goes came n s t
goes_gains e came n s t by call failure g =
    let alone : own s.worker (g.more ++ e ∷ []) ≡ e ∷ [] = own_gains s.worker [] g.more e g.others by in
    record {
      more = g.more ++ e ∷ [];
      same = g.same ∙ ap (λ (l : List Entry). seat_with s l false) (append_assoc s.seen g.more (e ∷ []));
      calls_are = mine_own s.worker (g.more ++ e ∷ []) ∙ ap calls alone ∙ call;
      failures_are = failed_own s.worker (g.more ++ e ∷ []) ∙ ap failures alone ∙ failure;
    }

-- by the worker that the seat has, or one before it had
pub goes_called_by : (w : ℕ) (s t : Seat) (command : Command) (moment : ℕ) (reply : Reply) → w ≡ s.worker → Gains (called w command moment reply) s t → Goes (call_at w command moment reply ∷ []) 0 s t
goes_called_by w s t command moment reply by g = goes_gains (called w command moment reply) (call_at w command moment reply ∷ []) 0 s t by refl refl g

pub goes_called : (s t : Seat) (command : Command) (moment : ℕ) (reply : Reply) → Gains (called s.worker command moment reply) s t → Goes (call_at s.worker command moment reply ∷ []) 0 s t
goes_called s t command moment reply g = goes_called_by s.worker s t command moment reply refl g

pub goes_taken : (end faults : ℕ) (s t : Seat) → Gains (taken s.worker end false faults) s t → Goes [] 0 s t
goes_taken end faults s t g = goes_gains (taken s.worker end false faults) [] 0 s t refl refl refl g

pub goes_put : (w : ℕ) (written : Bool) (durable faults : ℕ) (s t : Seat) → w ≡ s.worker → Gains (put w written durable faults) s t → Goes [] (cond written 0 1) s t
goes_put w true durable faults s t by g = goes_gains (put w true durable faults) [] 0 s t by refl refl g
goes_put w false durable faults s t by g = goes_gains (put w false durable faults) [] 1 s t by refl refl g

pub goes_publishes : (after : ℕ) (s t : Seat) (p : Published) → Publishes after s t p → Goes [] 0 s t
goes_publishes after s t (answer.New edit) p = goes_gains (published_at s.worker edit) [] 0 s t refl refl refl p.0
goes_publishes after s t (answer.Kept edit) p = goes_waits s t p.0

one_call : (v : ℕ) (x : Event) → IsWriting x → calls (record { worker = v; event = x } ∷ []) ≡ []
one_call v (event.Called command moment reply) w = absurd w
one_call v (event.Taken upto again faults) w = refl
one_call v (event.Put written durable faults) w = refl
one_call v (event.Published edit) w = refl

one_failure : (v : ℕ) (x : Event) → IsWriting x → failures (record { worker = v; event = x } ∷ []) ≡ 0
one_failure v (event.Called command moment reply) w = absurd w
one_failure v (event.Taken upto again faults) w = refl
one_failure v (event.Put written durable faults) w = ap (λ (b : Bool). 0 + cond (not b) 1 0) w
one_failure v (event.Published edit) w = refl

marks_call : (l : List Entry) → All IsWritingMark l → calls l ≡ []
marks_call [] a = refl
marks_call (e ∷ l) a = filter_map-append call_of (e ∷ []) l ∙ ap (λ (m : List Call). m ++ calls l) (one_call e.worker e.event (All-head IsWritingMark e l a)) ∙ marks_call l (All-tail IsWritingMark e l a)

marks_failure : (l : List Entry) → All IsWritingMark l → failures l ≡ 0
marks_failure [] a = refl
marks_failure (e ∷ l) a = count_append (λ (x : Entry). is_failure x.event) (e ∷ []) l ∙ ap (λ (m : ℕ). m + failures l) (one_failure e.worker e.event (All-head IsWritingMark e l a)) ∙ ap (λ (m : ℕ). 0 + m) (marks_failure l (All-tail IsWritingMark e l a))

pub goes_writes : (s t : Seat) → Writes s t → Goes [] 0 s t
goes_writes s t w = record {
  more = w.more;
  same = w.same;
  calls_are = mine_own s.worker w.more ∙ marks_call (own s.worker w.more) w.marks;
  failures_are = failed_own s.worker w.more ∙ marks_failure (own s.worker w.more) w.marks;
}

pub goes_fails : (s t : Seat) → Fails s t → Goes [] 1 s t
goes_fails s t f =
    let mark = put s.worker false f.durable f.faults in
    let alone : own s.worker (f.more ++ mark ∷ []) ≡ own s.worker f.more ++ mark ∷ [] = own_append s.worker f.more (mark ∷ []) ∙ ap (λ (l : List Entry). own s.worker f.more ++ l) (own_one s.worker mark refl) in
    record {
      more = f.more ++ mark ∷ [];
      same = f.same ∙ ap (λ (l : List Entry). seat_with s l false) (append_assoc s.seen f.more (mark ∷ []));
      calls_are = mine_own s.worker (f.more ++ mark ∷ []) ∙ ap calls alone ∙ filter_map-append call_of (own s.worker f.more) (mark ∷ [])
          ∙ ap (λ (l : List Call). l ++ []) (marks_call (own s.worker f.more) f.marks);
      failures_are = failed_own s.worker (f.more ++ mark ∷ []) ∙ ap failures alone ∙ count_append (λ (x : Entry). is_failure x.event) (own s.worker f.more) (mark ∷ [])
          ∙ ap (λ (n : ℕ). n + 1) (marks_failure (own s.worker f.more) f.marks);
    }

-- ---- what the list is then

pub seen_is : (c : List Call) (i : ℕ) (s t : Seat) (g : Goes c i s t) → t.seen ≡ s.seen ++ g.more
seen_is c i s t g = ap (λ (u : Seat). u.seen) g.same

pub worker_is : (c : List Call) (i : ℕ) (s t : Seat) → Goes c i s t → t.worker ≡ s.worker
worker_is c i s t g = ap (λ (u : Seat). u.worker) g.same

pub origin_is : (c : List Call) (i : ℕ) (s t : Seat) → Goes c i s t → t.origin ≡ s.origin
origin_is c i s t g = ap (λ (u : Seat). u.origin) g.same

pub free_is : (c : List Call) (i : ℕ) (s t : Seat) → Goes c i s t → t.turn ≡ false
free_is c i s t g = ap (λ (u : Seat). u.turn) g.same

pub known_then : (s t u : Seat) → IsKnown s t → IsKnown t u → IsKnown s u
known_then s t u (inl e) (inl f) = inl (f ∙ e)
known_then s t u (inr r) (inl f) = inr (subst (λ (v : Seat). IsRising v.origin v.seen) (sym f) r)
known_then s t u k (inr r) = inr r

-- ---- what is durable

lengths : (w n : ℕ) (c : List Call) (l m : List Entry) → length (mine w (calls l)) ≡ n → mine w (calls m) ≡ c → length (mine w (calls (l ++ m))) ≡ n + length c
lengths w n c l m a b = ap length (mine_append w l m) ∙ length-append (mine w (calls l)) (mine w (calls m)) ∙ ap (λ (x : ℕ). x + length (mine w (calls m))) a ∙ ap (λ (x : List Call). n + length x) b

pub durable_more : (n w : ℕ) (o : Origin) (c : List Call) (l more : List Entry) → mine w (calls more) ≡ c → IsDurable n w o l → IsDurable (n + length c) w o (l ++ more)
durable_more n w o c l more calls_are d = record {
  front = d.front;
  between = d.between;
  behind = d.behind ++ more;
  split = ap (λ (k : List Entry). k ++ more) d.split ∙ append_assoc (d.front ++ d.between) d.behind more;
  none = d.none;
  others = lengths w n c d.behind more d.others calls_are;
  durable = d.durable;
}

-- by what the seat knew before, and by what it knows then
pub durable_now : (i : ℕ) (s t : Seat) → Goes [] i s t → effects_in s.origin s.seen ≤ stable t.seen → IsDurable 0 t.worker t.origin t.seen
durable_now i s t g le = subst (λ (u : Seat). IsDurable 0 u.worker u.origin u.seen) (sym g.same) (record {
  front = s.seen;
  between = g.more;
  behind = [];
  split = sym (append-nil (s.seen ++ g.more));
  none = g.calls_are;
  others = refl;
  durable = subst (λ (l : List Entry). effects_in s.origin s.seen ≤ stable l) (seen_is [] i s t g) le;
})

pub durable_on : (n : ℕ) (c : List Call) (i : ℕ) (s t : Seat) → Goes c i s t → IsDurable n s.worker s.origin s.seen → IsDurable (n + length c) t.worker t.origin t.seen
durable_on n c i s t g d = subst (λ (u : Seat). IsDurable (n + length c) u.worker u.origin u.seen) (sym g.same) (durable_more n s.worker s.origin c s.seen g.more g.calls_are d)

-- ---- what is published

published_last : (o : Origin) (l : List Entry) (w edit : ℕ) → published o (l ++ published_at w edit ∷ []) ≡ edit
published_last o l w edit = ap (λ (win : Window). win.published) (fold-append window_by (record { kept = edits o.effects; published = edits o.effects }) l (published_at w edit ∷ []))

published_with : (s t : Seat) → Goes [] 0 s t → edits_after s.origin (calls s.seen) < published t.origin t.seen + 2048 → IsPublished 0 t.worker t.origin t.seen
published_with s t g lt = subst (λ (u : Seat). IsPublished 0 u.worker u.origin u.seen) (sym g.same) (record {
  front = s.seen;
  between = g.more;
  behind = [];
  split = sym (append-nil (s.seen ++ g.more));
  none = g.calls_are;
  others = refl;
  few = subst (λ (u : Seat). edits_after s.origin (calls s.seen) < published u.origin u.seen + 2048) g.same lt;
})

-- the worker has published, or no version was due
pub published_now : (s t : Seat) (p : Published) → Publishes 2048 s t p → IsPublished 0 t.worker t.origin t.seen
published_now s t (answer.New edit) p =
    let g = p.0 in
    let last : published t.origin t.seen ≡ edit = ap (λ (l : List Entry). published t.origin l) (ap (λ (u : Seat). u.seen) g.same) ∙ published_last t.origin (s.seen ++ g.more) s.worker edit in
    let above : edits_after s.origin (calls s.seen) ≤ edit = p.1 in
    published_with s t (goes_publishes 2048 s t (answer.New edit) p) (omega (arith, last, above))
published_now s t (answer.Kept edit) p =
    let last : edit ≡ published t.origin t.seen = p.1 in
    let above : edits_after s.origin (calls s.seen) < edit + 2048 = p.2 in
    published_with s t (goes_publishes 2048 s t (answer.Kept edit) p) (omega (arith, last, above))

pub published_more : (n w : ℕ) (o : Origin) (c : List Call) (l more : List Entry) → mine w (calls more) ≡ c → IsPublished n w o l → IsPublished (n + length c) w o (l ++ more)
published_more n w o c l more calls_are p = record {
  front = p.front;
  between = p.between;
  behind = p.behind ++ more;
  split = ap (λ (k : List Entry). k ++ more) p.split ∙ append_assoc (p.front ++ p.between) p.behind more;
  none = p.none;
  others = lengths w n c p.behind more p.others calls_are;
  few = p.few;
}

pub published_on : (n : ℕ) (c : List Call) (i : ℕ) (s t : Seat) → Goes c i s t → IsPublished n s.worker s.origin s.seen → IsPublished (n + length c) t.worker t.origin t.seen
published_on n c i s t g p = subst (λ (u : Seat). IsPublished (n + length c) u.worker u.origin u.seen) (sym g.same) (published_more n s.worker s.origin c s.seen g.more g.calls_are p)

-- what `republish` answers
pub goes_republished : {E : Type 0} (after : ℕ) (s t : Seat) (r : Result Published E) → IfOk r (Publishes after s t) → OnErr r (Waits s t) → Goes [] 0 s t
goes_republished after s t (Ok p) is w = goes_publishes after s t p is
goes_republished after s t (Err e) is w = goes_waits s t w

pub published_ok : {E : Type 0} (s t : Seat) (r : Result Published E) (p : Published) → r ≡ Ok p → IfOk r (Publishes 2048 s t) → IsPublished 0 t.worker t.origin t.seen
published_ok {E} s t r p is ok = published_now s t p (subst (λ (x : Result Published E). IfOk x (Publishes 2048 s t)) is ok)
