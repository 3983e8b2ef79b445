-- A change that is written first: it is staged, carried out and put back, while the list goes on.
use Rattle.std.proofs.Common.{◌≡◌, ℕ, ◌+◌, ◌≤◌, if◌then◌else◌, Bool, true, false, List, [], ◌∷◌, ◌++◌, All, length, refl, sym, ◌∙◌, ap, subst, arith, append_assoc, length-append, option_to_list, Option, Some, None}
use Rattle.std.proofs.lemmas.List.{append-nil}
use Rattle.atomic_table.specs.Seated.{TableId}
use Rattle.effects.specs.Bytes.{IsEncodable}
use Rattle.hist_lock.specs.Views.{Enters, seat_with}
use Rattle.exchange_shared.specs.declared.changing.Changed.{Changed}
use Rattle.exchange_shared.specs.declared.changing.Changed.TheVariants as changed
use Rattle.exchange_shared.specs.Errands.{HasEntered, HasStaged, LandsAhead, MayPutBy, Puts, put_by, taken_by}
use Rattle.exchange_shared.specs.Seats.{Changes, Gains, Lands, MayCall, Seat, Waits, effects_in, worker_of}
use Rattle.exchange_shared.proofs.Posting.{wait_on}
use Rattle.exchange_shared.proofs.Seats.{gains, out_then, own_append, own_one, own_others, waits, worker_stays}
use Rattle.exchange_state.specs.declared.entries.Entry.{Entry}
use Rattle.exchange_state.specs.declared.entries.Origin.{Origin}
use Rattle.exchange_state.specs.declared.errand.Errand.{Errand}
use Rattle.exchange_state.specs.declared.state.ExchangeState.{ExchangeState}
use Rattle.exchange_state.specs.declared.state.Settled.{Settled}
use Rattle.exchange_state.specs.Errands.{IsDone, IsStaged, IsTried, staging_marks, taking_mark, taking_of}
use Rattle.exchange_state.specs.Settling.{Enters as IsEntered}
use Rattle.exchange_state.specs.Standing.{StandsFor}
use Rattle.exchange_state.specs.Tickets.{IsLegalFrom, effects_after, state_after}
use Rattle.exchange_state.specs.Views.{AreInTurn, Taking, called, calls, out, out_of, own, put, stable, taken, told_or}
use Rattle.exchange_state.proofs.Growing.{effect_then, effects_more}
use Rattle.exchange_state.proofs.Later.{calls_on}
use Rattle.exchange_state.proofs.Owning.{knows_journal}
use Rattle.journal_file.specs.Standing.{faults_of}
use Rattle.plain_exchange.specs.declared.changes.Effect.{Effect}
use Rattle.plain_exchange.specs.declared.commands.Command.{Command}
use Rattle.plain_exchange.specs.declared.commands.Reply.{Reply}
use Rattle.plain_exchange.specs.History.{Call}
use Rattle.plain_exchange.specs.Step.{effect_of}
use Rattle.rtb_disk.specs.declared.disk.Disk.{Ghosts}

-- ---- lists

turn_of_front : (has : Option Taking) (l more : List Entry) → AreInTurn has (l ++ more) → AreInTurn has l
turn_of_front has [] more a = tt
turn_of_front has (e ∷ l) more a = (a.0, turn_of_front (told_or out_of has e) l more a.1)

-- a call has one effect at most
one_effect : (x : Option Effect) → length (option_to_list x) ≤ 1
one_effect None = omega arith
one_effect (Some e) = omega arith

effects_of_call : (o : Origin) (l : List Entry) (w : ℕ) (command : Command) (moment : ℕ) (reply : Reply) → effects_in o (l ++ called w command moment reply ∷ []) ≤ effects_in o l + 1
effects_of_call o l w command moment reply =
    let c : Call = record { worker = w; command = command; moment = moment; reply = reply } in
    let on : effects_in o (l ++ called w command moment reply ∷ []) ≡ length (effects_after o (calls l ++ c ∷ [])) = ap (λ h. length (effects_after o h)) (calls_on l (called w command moment reply ∷ [])) in
    let more : length (effects_after o (calls l ++ c ∷ [])) ≡ length (effects_after o (calls l) ++ effect_then o (calls l) c) = ap (λ (es : List Effect). length es) (effects_more o (calls l) c) in
    let one : length (effect_then o (calls l) c) ≤ 1 = one_effect (effect_of o.settings moment (state_after o (calls l)) command) in
    omega (arith, on, more, length-append (effects_after o (calls l)) (effect_then o (calls l) c), one)

pub waits_none : (s : Seat) → s.turn ≡ false → Waits s s
waits_none s free = record {
  more = [];
  others = refl;
  same = sym (ap (λ l. seat_with s l false) (append-nil s.seen) ∙ ap (λ b. seat_with s s.seen b) (sym free));
}

-- the invariant of the turns until then
pub still_waits : (here : TableId) (s u v t : Seat) → (u.lock ≡ here) × (u.turn ≡ false) × Waits s u → Enters worker_of u v → t ≡ seat_with v v.seen false → (t.lock ≡ here) × (t.turn ≡ false) × Waits s t
still_waits here s u v t i en left = (
  ap (λ (z : Seat). z.lock) left ∙ ap (λ (z : Seat). z.lock) en.1 ∙ i.0,
  ap (λ (z : Seat). z.turn) left,
  wait_on s u t i.2 (waits u v t en left),
)

end_if : (written : Bool) (a b c : ℕ) → a ≡ c → written ≡ true → (if written then a else b) ≡ c
end_if true a b c is told = is
end_if false a b c is told = absurd (cc told)

-- what was staged and tried may be put back once the change is carried out
abbrev pub MayBePutBack : (D : Type 0) (G : Ghosts D) → Type 0
MayBePutBack D G = (o : Origin) (l more behind : List Entry) (w moment : ℕ) (command : Command) (reply : Reply) (old new : Errand D G) (written : Bool) → IsStaged o l command moment old → All IsEncodable (effects_after o (calls l)) → IsTried old new written
    → old.upto ≡ length (effects_after o (calls ((l ++ taking_mark w old ∷ []) ++ more))) + 1 → AreInTurn None ((((l ++ taking_mark w old ∷ []) ++ more) ++ called w command moment reply ∷ []) ++ behind) → own w more ≡ [] → own w behind ≡ []
    → IsDone o ((((l ++ taking_mark w old ∷ []) ++ more) ++ called w command moment reply ∷ []) ++ behind) (taking_of w old) new written

module _ {D : Type 0} {G : Ghosts D} where
  -- ---- the turn of staging

  pub marked : (o : Origin) (x : ExchangeState D G) (l : List Entry) (w : ℕ) (r q : Option (Errand D G)) → r ≡ q → StandsFor o x (l ++ staging_marks w r) → StandsFor o x (l ++ staging_marks w q)
  marked o x l w r q is s = subst (λ (t : Option (Errand D G)). StandsFor o x (l ++ staging_marks w t)) is s

  pub staged_by : (here : TableId) (s u t : Seat) (command : Command) (moment : ℕ) (e : Errand D G) (x : ExchangeState D G) → MayCall here s → Enters worker_of s u → StandsFor u.origin x u.seen → IsStaged u.origin u.seen command moment e
      → t ≡ seat_with u (u.seen ++ taken_by u e ∷ []) false → HasStaged here t command moment e × Gains (taken_by s e) s t
  staged_by here s u t command moment e x may en stands staged left = (
    subst (λ (y : Seat). HasStaged here y command moment e) (sym left) (record {
      lock = ap (λ (y : Seat). y.lock) en.1 ∙ may.lock;
      free = refl;
      before = u.seen;
      staged = staged;
      encodable = stands.encodable;
      seen = refl;
    }),
    record {
      more = en.0;
      others = en.2;
      same = left ∙ ap (λ (y : Seat). seat_with y (y.seen ++ taken_by y e ∷ []) false) en.1;
    },
  )

  -- ---- the turn of carrying out

  -- the journal is out with the change, whatever the others did meanwhile
  pub out_staged : (here : TableId) (s v : Seat) (command : Command) (moment : ℕ) (e : Errand D G) (more : List Entry) (h : HasStaged here s command moment e) → own s.worker more ≡ [] → v.seen ≡ s.seen ++ more → AreInTurn None v.seen → out v.seen ≡ Some (taking_of s.worker e)
  out_staged here s v command moment e more h none is turn =
      let w = s.worker in
      let tk = taken_by s e in
      let mine : own w v.seen ≡ own w h.before ++ tk ∷ [] = ap (own w) is ∙ own_others w s.seen more none ∙ ap (own w) h.seen
      ∙ own_append w h.before (tk ∷ []) ∙ ap (λ m. own w h.before ++ m) (own_one w tk refl) in
      let has : out (own w v.seen) ≡ Some (taking_of w e) = ap out mine ∙ out_then (own w h.before) tk in
      ((knows_journal w v.seen (taking_of w e) turn).0 has).0

  pub entered_by : (here : TableId) (s u v t : Seat) (command : Command) (moment : ℕ) (e : Errand D G) (x y : ExchangeState D G) (settled : Settled) → HasStaged here s command moment e → Waits s u → Enters worker_of u v
      → StandsFor v.origin x v.seen → IsEntered v.origin v.seen v.worker command moment y settled → ((k : Taking) → out v.seen ≡ Some k → k.upto ≡ length (effects_after v.origin (calls v.seen)) + 1)
      → t ≡ seat_with v (v.seen ++ called v.worker command moment settled.reply ∷ []) false → HasEntered here s t command moment e settled
  entered_by here s u v t command moment e x y settled h a en stands entered ahead left =
      let w = s.worker in
      let more : List Entry = a.more ++ en.0 in
      let same_worker : u.worker ≡ w = ap (λ (z : Seat). z.worker) a.same in
      let others : own w en.0 ≡ [] = subst (λ n. own n en.0 ≡ []) same_worker en.2 in
      let none : own w more ≡ [] = own_others w a.more en.0 others ∙ a.others in
      let along : v ≡ seat_with s (s.seen ++ more) true = en.1 ∙ ap (λ (z : Seat). seat_with z (z.seen ++ en.0) true) a.same ∙ ap (λ l. seat_with s l true) (append_assoc s.seen a.more en.0) in
      let is_out : out v.seen ≡ Some (taking_of w e) = out_staged here s v command moment e more h none (ap (λ (z : Seat). z.seen) along) stands.in_turn in
      record {
        staged = h;
        called_is = record {
          more = more;
          others = none;
          same = left ∙ ap (λ (z : Seat). seat_with z (z.seen ++ called z.worker command moment settled.reply ∷ []) false) along;
        };
        ahead = subst (λ (z : Seat). e.upto ≡ effects_in z.origin z.seen + 1) along (ahead (taking_of w e) is_out);
        legal = subst (λ (z : Seat). IsLegalFrom z.origin (calls z.seen)) (sym left) entered.stands.legal;
        upto = subst (λ (z : Seat). settled.upto ≡ effects_in z.origin z.seen) (sym left) entered.upto;
      }

  -- ---- the turn of putting back

  -- the law at the list that a seat has seen since
  done_ahead : MayBePutBack D G → (here : TableId) (s t : Seat) (command : Command) (moment : ℕ) (e new : Errand D G) (settled : Settled) (written : Bool) (behind l : List Entry) → HasEntered here s t command moment e settled → IsTried e new written
      → l ≡ t.seen ++ behind → own s.worker behind ≡ [] → AreInTurn None l → IsDone s.origin l (taking_of s.worker e) new written
  done_ahead law here s t command moment e new settled written behind l h tried is none turn =
      let w = s.worker in
      let a = h.called_is in
      let front : List Entry = (h.staged.before ++ taken_by s e ∷ []) ++ a.more in
      let call : Entry = called w command moment settled.reply in
      let along : l ≡ (front ++ call ∷ []) ++ behind = is ∙ ap (λ (z : Seat). z.seen ++ behind) a.same ∙ ap (λ k. ((k ++ a.more) ++ call ∷ []) ++ behind) h.staged.seen in
      let ahead : e.upto ≡ effects_in s.origin front + 1 = subst (λ k. e.upto ≡ effects_in s.origin (k ++ a.more) + 1) h.staged.seen h.ahead in
      subst (λ k. IsDone s.origin k (taking_of w e) new written) (sym along)
      (law s.origin h.staged.before a.more behind w moment command settled.reply e new written h.staged.staged h.staged.encodable tried ahead (subst (AreInTurn None) along turn) a.others none)

  -- the seat may enter again
  pub entered_free : (here : TableId) (s t : Seat) (command : Command) (moment : ℕ) (e : Errand D G) (settled : Settled) → HasEntered here s t command moment e settled → (t.lock ≡ here) × (t.turn ≡ false)
  entered_free here s t command moment e settled h = (ap (λ (z : Seat). z.lock) h.called_is.same ∙ h.staged.lock, ap (λ (z : Seat). z.turn) h.called_is.same)

  -- and once it has, it has the turn
  pub entered_turn : (here : TableId) (s t u : Seat) (command : Command) (moment : ℕ) (e : Errand D G) (settled : Settled) → HasEntered here s t command moment e settled → Enters worker_of t u → (u.lock ≡ here) × (u.turn ≡ true)
  entered_turn here s t u command moment e settled h en = (ap (λ (z : Seat). z.lock) en.1 ∙ ap (λ (z : Seat). z.lock) h.called_is.same ∙ h.staged.lock, ap (λ (z : Seat). z.turn) en.1)

  pub may_put_ahead : MayBePutBack D G → (here : TableId) (s t u : Seat) (command : Command) (moment : ℕ) (e new : Errand D G) (settled : Settled) (written : Bool) (x : ExchangeState D G) → HasEntered here s t command moment e settled → Enters worker_of t u
      → StandsFor u.origin x u.seen → IsTried e new written → MayPutBy u new written
  may_put_ahead law here s t u command moment e new settled written x h en stands tried =
      let same_worker : t.worker ≡ s.worker = ap (λ (z : Seat). z.worker) h.called_is.same in
      let same_origin : u.origin ≡ s.origin = ap (λ (z : Seat). z.origin) en.1 ∙ ap (λ (z : Seat). z.origin) h.called_is.same in
      let d = done_ahead law here s t command moment e new settled written en.0 u.seen h tried (ap (λ (z : Seat). z.seen) en.1) (subst (λ n. own n en.0 ≡ []) same_worker en.2) stands.in_turn in
      record {
        taking = taking_of s.worker e;
        by = sym (worker_stays t u en ∙ same_worker);
        done = subst (λ (o : Origin). IsDone o u.seen (taking_of s.worker e) new written) (sym same_origin) d;
      }

  -- the change has its effect: the block ends with it
  upto_ahead : MayBePutBack D G → (here : TableId) (s t u : Seat) (command : Command) (moment : ℕ) (e new : Errand D G) (settled : Settled) (written : Bool) (x : ExchangeState D G) → HasEntered here s t command moment e settled → Enters worker_of t u
      → StandsFor u.origin x u.seen → IsTried e new written → e.upto ≡ settled.upto
  upto_ahead law here s t u command moment e new settled written x h en stands tried =
      let a = h.called_is in
      let turn : AreInTurn None t.seen = turn_of_front None t.seen en.0 (subst (AreInTurn None) (ap (λ (z : Seat). z.seen) en.1) stands.in_turn) in
      let d = done_ahead law here s t command moment e new settled written [] t.seen h tried (sym (append-nil t.seen)) refl turn in
      let there : e.upto ≤ effects_in s.origin t.seen = d.there in
      let all : settled.upto ≡ effects_in s.origin t.seen = subst (λ (o : Origin). settled.upto ≡ effects_in o t.seen) (ap (λ (z : Seat). z.origin) a.same) h.upto in
      let few : effects_in s.origin t.seen ≤ effects_in s.origin (s.seen ++ a.more) + 1 = subst (λ l. effects_in s.origin l ≤ effects_in s.origin (s.seen ++ a.more) + 1) (sym (ap (λ (z : Seat). z.seen) a.same))
      (effects_of_call s.origin (s.seen ++ a.more) s.worker command moment settled.reply) in
      let ahead = h.ahead in
      omega (arith, there, all, few, ahead)

  pub puts_ahead : MayBePutBack D G → (here : TableId) (s t u v : Seat) (command : Command) (moment : ℕ) (e new : Errand D G) (settled : Settled) (written told : Bool) (x : ExchangeState D G) → written ≡ told → HasEntered here s t command moment e settled
      → Enters worker_of t u → StandsFor u.origin x u.seen → IsTried e new written → v ≡ seat_with u (u.seen ++ put_by u new written ∷ []) false → LandsAhead command moment s e v settled told
  puts_ahead law here s t u v command moment e new settled written told x is h en stands tried left =
      let same_worker : u.worker ≡ s.worker = worker_stays t u en ∙ ap (λ (z : Seat). z.worker) h.called_is.same in
      let end : ℕ = if written then new.upto else stable u.seen in
      let same_end : new.upto ≡ settled.upto = ap (λ (n : Errand D G). n.upto) tried.same ∙ upto_ahead law here s t u command moment e new settled written x h en stands tried in
      subst (LandsAhead command moment s e v settled) is (record {
        calling = t;
        called_is = h.called_is;
        legal = h.legal;
        upto = h.upto;
        durable = end;
        count = faults_of new.journal;
        put_is = subst (λ n. Gains (put n written end (faults_of new.journal)) t v) same_worker (gains (put_by u new written) t u v en left);
        there = end_if written new.upto (stable u.seen) settled.upto same_end;
        rose = tried.rose;
      })

  pub may_call_put : (here : TableId) (s t u v : Seat) (command : Command) (moment : ℕ) (e new : Errand D G) (settled : Settled) (written : Bool) → HasEntered here s t command moment e settled → Enters worker_of t u
      → v ≡ seat_with u (u.seen ++ put_by u new written ∷ []) false → MayCall here v
  may_call_put here s t u v command moment e new settled written h en left =
      let w = u.worker in
      let mark = put_by u new written in
      subst (MayCall here) (sym left) (record {
        lock = ap (λ (z : Seat). z.lock) en.1 ∙ ap (λ (z : Seat). z.lock) h.called_is.same ∙ h.staged.lock;
        free = refl;
        no_journal = ap out (own_append w u.seen (mark ∷ []) ∙ ap (λ m. own w u.seen ++ m) (own_one w mark refl)) ∙ out_then (own w u.seen) mark;
      })

  -- ---- the whole call

  lands : (here : TableId) (s u v : Seat) (command : Command) (moment : ℕ) (e : Errand D G) (settled : Settled) (written : Bool) → HasStaged here u command moment e → Gains (taken_by s e) s u
      → LandsAhead command moment u e v settled written → Lands command moment s v settled written
  lands here s u v command moment e settled written h a b =
      let same_worker : u.worker ≡ s.worker = ap (λ (z : Seat). z.worker) a.same in
      record {
        end = e.upto;
        faults = faults_of e.journal;
        taking = u;
        taken_is = subst (λ again. Gains (taken s.worker e.upto again (faults_of e.journal)) s u) h.staged.again a;
        calling = b.calling;
        called_is = subst (λ n. Gains (called n command moment settled.reply) u b.calling) same_worker b.called_is;
        legal = b.legal;
        upto = b.upto;
        durable = b.durable;
        count = b.count;
        put_is = subst (λ n. Gains (put n written b.durable b.count) b.calling v) same_worker b.put_is;
        there = b.there;
        rose = b.rose;
      }

  pub changes : (here : TableId) (s u v : Seat) (command : Command) (moment : ℕ) (e : Errand D G) (c : Changed) → HasStaged here u command moment e × Gains (taken_by s e) s u → Puts command moment u e v c → Changes command moment s v c
  changes here s u v command moment e (changed.Durable settled) p b = lands here s u v command moment e settled true p.0 p.1 b
  changes here s u v command moment e (changed.StoreFailed settled) p b = lands here s u v command moment e settled false p.0 p.1 b
  changes here s u v command moment e changed.NotAlone p b = absurd b
