-- Errands of the journal, while the list goes on.
use Rattle.std.proofs.Common.{◌≡◌, ◌≤◌, ℕ, Bool, true, false, not, List, [], ◌∷◌, ◌++◌, All, refl, sym, ◌∙◌, ap, subst, append_assoc, arith, Option, Some, None, Result, Ok, Err, OnOk, OnErr, MatchResult}
use Rattle.std.specs.Prelude.{fold}
use Rattle.std.specs.Result.{is_ok}
use Rattle.std.proofs.lemmas.List.{append-nil}
use Rattle.std.proofs.lemmas.List.Sums.{fold-append}
use Rattle.std.proofs.lemmas.List.Elements.{All-append, All-cons, All-nil}
use Rattle.atomic_table.specs.Seated.{TableId}
use Rattle.hist_lock.specs.Views.{Enters, seat_with}
use Rattle.exchange_shared.specs.Errands.{HasErrand, LeavesBroken, MayPutBy, PutsBack, put_by, taken_by}
use Rattle.exchange_shared.specs.Seats.{Fails, Gains, IsOrdered, IsWritingMark, MayCall, Seat, Waits, Writes, worker_of}
use Rattle.exchange_shared.proofs.Seats.{gains, out_then, own_append, own_gains, own_others, still, worker_stays}
use Rattle.exchange_state.specs.declared.entries.Entry.{Entry}
use Rattle.exchange_state.specs.declared.entries.Origin.{Origin}
use Rattle.exchange_state.specs.declared.errand.Errand.{Errand}
use Rattle.exchange_state.specs.declared.state.ExchangeState.{ExchangeState}
use Rattle.exchange_state.specs.Errands.{IsDone, IsTried, Starts, taking_marks}
use Rattle.exchange_state.specs.declared.errand.Taken.{Taken}
use Rattle.exchange_state.specs.Standing.{StandsFor}
use Rattle.exchange_state.specs.Views.{AreInTurn, IsRising, Taking, faults_of as faults_in, faults_told, out, out_of, own, put, stable, told_or}
use Rattle.exchange_state.proofs.Later.{done}
use Rattle.exchange_state.proofs.Owning.{quiet}
use Rattle.exchange_state.proofs.Rising.{faults_later, rising_front}
use Rattle.journal_file.specs.Standing.{Broken, IsBeforeOrAfter, Keeps, faults_of, is_broken, store_of}
use Rattle.journal_file.specs.Blocks.{journal_names}
use Rattle.journal_file.specs.declared.journal.Journal.{Journal}
use Rattle.rtb_base.specs.Faults.{CountsErrors, Rose}
use Rattle.rtb_disk.specs.Stores.{Always}
use Rattle.rtb_disk.specs.declared.disk.Disk.{Ghosts}

turn_behind : (has : Option Taking) (l : List Entry) (e : Entry) (more : List Entry) → AreInTurn has (l ++ e ∷ more) → AreInTurn (told_or out_of (fold (told_or out_of) has l) e) more
turn_behind has [] e more a = a.1
turn_behind has (x ∷ l) e more a = turn_behind (told_or out_of has x) l e more a.1

joined : (s m1 T m2 P : List Entry) → (((s ++ m1) ++ T) ++ m2) ++ P ≡ s ++ (((m1 ++ T) ++ m2) ++ P)
joined s m1 T m2 P = ap (λ k. (k ++ m2) ++ P) (append_assoc s m1 T) ∙ ap (λ k. k ++ P) (append_assoc s (m1 ++ T) m2) ∙ append_assoc s ((m1 ++ T) ++ m2) P

-- the count of failed calls rose above what was told earlier too
rose_less : (a b n : ℕ) → a ≤ b → Rose b n → Rose a n
rose_less a b n le rose = omega (arith, le, rose)

rose_since : (o : Origin) (l more : List Entry) (e : Entry) (n : ℕ) → IsRising o ((l ++ more) ++ e ∷ []) → Rose (faults_told o (l ++ more)) n → Rose (faults_told o l) n
rose_since o l more e n r rose = rose_less (faults_told o l) (faults_told o (l ++ more)) n (faults_later o l more (rising_front o (l ++ more) (e ∷ []) r)) rose

module _ {D : Type 0} {G : Ghosts D} where
  abbrev taking_of : Seat → Errand D G → Taking
  taking_of s e = record { worker = s.worker; upto = e.upto; again = e.again; faults = faults_of e.journal }

  seen_since : (here : TableId) (s t : Seat) (e : Errand D G) (h : HasErrand here s e) (en : Enters worker_of s t) → t.seen ≡ h.before ++ taken_by s e ∷ en.0
  seen_since here s t e h en = ap (λ (u : Seat). u.seen) en.1 ∙ ap (λ m. m ++ en.0) h.seen ∙ append_assoc h.before (taken_by s e ∷ []) en.0

  -- the journal may be put back, whatever the others did meanwhile
  pub may_put : (here : TableId) (s t : Seat) (e new : Errand D G) (written : Bool) (x : ExchangeState D G) → HasErrand here s e → Enters worker_of s t → StandsFor t.origin x t.seen → IsTried e new written → MayPutBy t new written
  may_put here s t e new written x h en stands tried =
      let turn : AreInTurn None (h.before ++ taken_by s e ∷ en.0) = subst (AreInTurn None) (seen_since here s t e h en) stands.in_turn in
      let d = done s.origin h.before en.0 s.worker e new.journal written h.errand turn en.2 h.encodable tried.broken tried.no_less tried.rose tried.kept tried.stopped tried.always in
      record {
        taking = taking_of s e;
        by = sym (worker_stays s t en);
        done = subst (λ (n : Errand D G). IsDone t.origin t.seen (taking_of s e) n written) (sym tried.same)
            (subst (λ (o : Origin). IsDone o t.seen (taking_of s e) (record { journal = new.journal; block = e.block; upto = e.upto; again = e.again }) written) (sym (ap (λ (u : Seat). u.origin) en.1))
            (subst (λ (l : List Entry). IsDone s.origin l (taking_of s e) (record { journal = new.journal; block = e.block; upto = e.upto; again = e.again }) written) (sym (seen_since here s t e h en)) d));
      }

  -- the count of failed calls is told as it was when the journal was taken
  pub told_since : (here : TableId) (s t : Seat) (e : Errand D G) (x : ExchangeState D G) (h : HasErrand here s e) (en : Enters worker_of s t) → StandsFor t.origin x t.seen → faults_told s.origin (s.seen ++ en.0) ≡ faults_of e.journal
  told_since here s t e x h en stands =
      let turn : AreInTurn None (h.before ++ taken_by s e ∷ en.0) = subst (AreInTurn None) (seen_since here s t e h en) stands.in_turn in
      let q = quiet (taking_of s e) en.0 (turn_behind None h.before (taken_by s e) en.0 turn) en.2 in
      ap (faults_told s.origin) (ap (λ m. m ++ en.0) h.seen ∙ append_assoc h.before (taken_by s e ∷ []) en.0)
      ∙ fold-append (told_or faults_in) s.origin.faults h.before (taken_by s e ∷ en.0)
      ∙ q.same_faults (faults_of e.journal)

  -- ---- the device calls

  pub tried : {T E : Type 0} (old : Errand D G) (j : Journal D G) (r : Result T E) (w : Bool) → w ≡ is_ok r
      → MatchResult r (λ _. is_broken j ≡ false) (λ _. is_broken j ≡ true) → CountsErrors (faults_of old.journal) (faults_of j) r
      → ((payloads : List (List ℕ)) → Starts old payloads → OnOk r (Keeps journal_names j (payloads ++ old.block ∷ [])))
      → ((payloads : List (List ℕ)) → Starts old payloads → OnErr r (Broken journal_names j payloads old.block))
      → ((payloads : List (List ℕ)) → Starts old payloads → Always (IsBeforeOrAfter journal_names payloads old.block) (store_of old.journal) (store_of j))
      → IsTried old (record { journal = j; block = old.block; upto = old.upto; again = old.again }) w
  tried old j (Ok x) w is b c k s a = record {
    same = refl;
    broken = b ∙ sym (ap not is);
    no_less = omega (arith, c);
    rose = λ h. absurd (cc (is, h));
    kept = λ h. k;
    stopped = λ h. absurd (cc (is, h));
    always = a;
  }
  tried old j (Err x) w is b c k s a = record {
    same = refl;
    broken = b ∙ sym (ap not is);
    no_less = c.0;
    rose = λ h. c.1;
    kept = λ h. absurd (cc (is, h));
    stopped = λ h. s;
    always = a;
  }

  -- ---- the turn of a taking

  pub took : (o : Origin) (x : ExchangeState D G) (l : List Entry) (w : ℕ) (r q : Taken D G) → r ≡ q → StandsFor o x (l ++ taking_marks w r) → StandsFor o x (l ++ taking_marks w q)
  took o x l w r q is s = subst (λ (t : Taken D G). StandsFor o x (l ++ taking_marks w t)) is s

  pub took_none : (o : Origin) (x : ExchangeState D G) (l : List Entry) (w : ℕ) (r : Taken D G) → taking_marks w r ≡ [] → StandsFor o x (l ++ taking_marks w r) → StandsFor o x l
  took_none o x l w r none s = subst (StandsFor o x) (ap (λ m. l ++ m) none ∙ append-nil l) s

  -- ---- the turn of a put

  pub put_may : (here : TableId) (s u v : Seat) (e new : Errand D G) (written : Bool) → HasErrand here s e → Enters worker_of s u → v ≡ seat_with u (u.seen ++ put_by u new written ∷ []) false → MayCall here v
  put_may here s u v e new written h en left =
      let g = gains (put_by u new written) s u v en left in
      subst (MayCall here) (sym g.same) (record {
        lock = h.lock;
        free = refl;
        no_journal = ap out (own_gains s.worker s.seen g.more (put_by u new written) g.others (worker_stays s u en)) ∙ out_then (own s.worker s.seen) (put_by u new written);
      })

  pub broken : (here : TableId) (s u v : Seat) (e new : Errand D G) (x : ExchangeState D G) (written : Bool) → written ≡ false → HasErrand here s e → Enters worker_of s u → StandsFor u.origin x u.seen → IsTried e new written → v ≡ seat_with u (u.seen ++ put_by u new written ∷ []) false → LeavesBroken s e v
  broken here s u v e new x written is h en stands tried left =
      record {
        more = en.0;
        others = en.2;
        durable = stable u.seen;
        faults = faults_of new.journal;
        same = left ∙ ap (λ (y : Seat). seat_with y (y.seen ++ put_by u new written ∷ []) false) en.1
            ∙ ap (λ k. seat_with s ((s.seen ++ en.0) ++ k ∷ []) false) (ap (λ b. put_by u new b) is ∙ ap (λ n. put n false (stable u.seen) (faults_of new.journal)) (worker_stays s u en));
        told = told_since here s u e x h en stands;
        rose = subst (λ n. Rose n (faults_of new.journal)) (sym (told_since here s u e x h en stands)) (tried.rose is);
      }

  -- ---- what a call made of the list

  pub writes_errand : (t u v : Seat) (e : Errand D G) → Gains (taken_by t e) t u → PutsBack u e v → Writes t v
  writes_errand t u v e a (faults, b) =
      let w = t.worker in
      let tk = taken_by t e in
      let pt = put w true e.upto faults in
      let same_worker : u.worker ≡ w = ap (λ (y : Seat). y.worker) a.same in
      let others : own w b.more ≡ [] = subst (λ n. own n b.more ≡ []) same_worker b.others in
      let mine : own w (((a.more ++ tk ∷ []) ++ b.more) ++ pt ∷ []) ≡ tk ∷ pt ∷ [] =
      own_gains w (a.more ++ tk ∷ []) b.more pt others refl ∙ ap (λ l. l ++ pt ∷ []) (own_gains w [] a.more tk a.others refl) in
      record {
        more = ((a.more ++ tk ∷ []) ++ b.more) ++ pt ∷ [];
        marks = subst (All IsWritingMark) (sym mine) two;
        back = ap out (own_append w t.seen (((a.more ++ tk ∷ []) ++ b.more) ++ pt ∷ []) ∙ ap (λ l. own w t.seen ++ l) mine) ∙ fold-append (told_or out_of) None (own w t.seen) (tk ∷ pt ∷ []);
        same = b.same ∙ ap (λ (y : Seat). seat_with y ((y.seen ++ b.more) ++ put y.worker true e.upto faults ∷ []) false) a.same
            ∙ ap (λ k. seat_with t k false) (joined t.seen a.more (tk ∷ []) b.more (pt ∷ []));
      }
    where
      two : All IsWritingMark (taken_by t e ∷ put t.worker true e.upto faults ∷ [])
      two = All-cons IsWritingMark (taken_by t e) (put t.worker true e.upto faults ∷ []) tt (All-cons IsWritingMark (put t.worker true e.upto faults) [] refl (All-nil IsWritingMark))

  pub fails_errand : (t u v : Seat) (e : Errand D G) → IsRising v.origin v.seen → Gains (taken_by t e) t u → LeavesBroken u e v → Fails t v
  fails_errand t u v e rising a b =
      let w = t.worker in
      let tk = taken_by t e in
      let more : List Entry = (a.more ++ tk ∷ []) ++ b.more in
      let failed : Entry = put w false b.durable b.faults in
      let same_worker : u.worker ≡ w = ap (λ (y : Seat). y.worker) a.same in
      let same_origin : u.origin ≡ t.origin = ap (λ (y : Seat). y.origin) a.same in
      let others : own w b.more ≡ [] = subst (λ n. own n b.more ≡ []) same_worker b.others in
      let mine : own w more ≡ tk ∷ [] = own_others w (a.more ++ tk ∷ []) b.more others ∙ own_gains w [] a.more tk a.others refl in
      let behind : ((t.seen ++ a.more) ++ tk ∷ []) ++ b.more ≡ t.seen ++ more = ap (λ k. k ++ b.more) (append_assoc t.seen a.more (tk ∷ [])) ∙ append_assoc t.seen (a.more ++ tk ∷ []) b.more in
      let along : u.seen ++ b.more ≡ t.seen ++ more = ap (λ (y : Seat). y.seen ++ b.more) a.same ∙ behind in
      let same : v ≡ seat_with t ((t.seen ++ more) ++ failed ∷ []) false =
      b.same ∙ ap (λ (y : Seat). seat_with y ((y.seen ++ b.more) ++ put y.worker false b.durable b.faults ∷ []) false) a.same
      ∙ ap (λ k. seat_with t (k ++ failed ∷ []) false) behind in
      let rose : Rose (faults_told t.origin (t.seen ++ more)) b.faults =
      subst (λ (o : Origin). Rose (faults_told o (t.seen ++ more)) b.faults) same_origin (subst (λ (l : List Entry). Rose (faults_told u.origin l) b.faults) along b.rose) in
      record {
        more = more;
        marks = subst (All IsWritingMark) (sym mine) one;
        taking = taking_of t e;
        has = ap out (own_append w t.seen more ∙ ap (λ k. own w t.seen ++ k) mine) ∙ out_then (own w t.seen) tk;
        told = subst (λ (o : Origin). faults_told o (t.seen ++ more) ≡ faults_of e.journal) same_origin
            (subst (λ (l : List Entry). faults_told u.origin l ≡ faults_of e.journal) along b.told);
        durable = b.durable;
        faults = b.faults;
        same = same;
        rose = rose;
        rose_in_call = rose_since t.origin t.seen more failed b.faults (subst (λ (y : Seat). IsRising y.origin y.seen) same rising) rose;
      }
    where
      one : All IsWritingMark (taken_by t e ∷ [])
      one = All-cons IsWritingMark (taken_by t e) [] tt (All-nil IsWritingMark)

pub writes_wait : (here : TableId) (s t : Seat) → MayCall here s → Waits s t → Writes s t
writes_wait here s t may w = record {
  more = w.more;
  marks = subst (All IsWritingMark) (sym w.others) (All-nil IsWritingMark);
  back = ap out (own_others s.worker s.seen w.more w.others) ∙ may.no_journal;
  same = w.same;
}

pub writes_none : (here : TableId) (s : Seat) → MayCall here s → Writes s s
writes_none here s may = record {
  more = [];
  marks = All-nil IsWritingMark;
  back = ap (λ l. out (own s.worker l)) (append-nil s.seen) ∙ may.no_journal;
  same = sym (ap (λ l. seat_with s l false) (append-nil s.seen) ∙ ap (λ b. seat_with s s.seen b) (sym may.free));
}

pub writes_on : (s t u : Seat) → Writes s t → Writes t u → Writes s u
writes_on s t u a b =
    let same_worker : t.worker ≡ s.worker = ap (λ (y : Seat). y.worker) a.same in
    record {
      more = a.more ++ b.more;
      marks = subst (All IsWritingMark) (sym (own_append s.worker a.more b.more)) (All-append IsWritingMark (own s.worker a.more) (own s.worker b.more) a.marks (subst (λ n. All IsWritingMark (own n b.more)) same_worker b.marks));
      back = ap (λ l. out (own s.worker l)) (sym (append_assoc s.seen a.more b.more)) ∙ subst (λ (y : Seat). out (own y.worker (y.seen ++ b.more)) ≡ None) a.same b.back;
      same = b.same ∙ ap (λ (y : Seat). seat_with y (y.seen ++ b.more) false) a.same ∙ ap (λ k. seat_with s k false) (append_assoc s.seen a.more b.more);
    }

pub fails_on : (s t u : Seat) → IsRising u.origin u.seen → Writes s t → Fails t u → Fails s u
fails_on s t u rising a b =
    let same_worker : t.worker ≡ s.worker = ap (λ (y : Seat). y.worker) a.same in
    let more : List Entry = a.more ++ b.more in
    let failed : Entry = put s.worker false b.durable b.faults in
    let behind : (s.seen ++ a.more) ++ b.more ≡ s.seen ++ more = append_assoc s.seen a.more b.more in
    let same : u ≡ seat_with s ((s.seen ++ more) ++ failed ∷ []) false =
    b.same ∙ ap (λ (y : Seat). seat_with y ((y.seen ++ b.more) ++ put y.worker false b.durable b.faults ∷ []) false) a.same
    ∙ ap (λ k. seat_with s (k ++ failed ∷ []) false) behind in
    let rose : Rose (faults_told s.origin (s.seen ++ more)) b.faults =
    subst (λ (l : List Entry). Rose (faults_told s.origin l) b.faults) behind (subst (λ (y : Seat). Rose (faults_told y.origin (y.seen ++ b.more)) b.faults) a.same b.rose) in
    record {
      more = more;
      marks = subst (All IsWritingMark) (sym (own_append s.worker a.more b.more)) (All-append IsWritingMark (own s.worker a.more) (own s.worker b.more) a.marks (subst (λ n. All IsWritingMark (own n b.more)) same_worker b.marks));
      taking = b.taking;
      has = ap (λ l. out (own s.worker l)) (sym behind) ∙ subst (λ (y : Seat). out (own y.worker (y.seen ++ b.more)) ≡ Some b.taking) a.same b.has;
      told = subst (λ (l : List Entry). faults_told s.origin l ≡ b.taking.faults) behind (subst (λ (y : Seat). faults_told y.origin (y.seen ++ b.more) ≡ b.taking.faults) a.same b.told);
      durable = b.durable;
      faults = b.faults;
      same = same;
      rose = rose;
      rose_in_call = rose_since s.origin s.seen more failed b.faults (subst (λ (y : Seat). IsRising y.origin y.seen) same rising) rose;
    }

pub step_wait : (here : TableId) (s t u : Seat) → MayCall here t → Writes s t → Waits t u → MayCall here u × Writes s u
step_wait here s t u may on w = (still here t u may w, writes_on s t u on (writes_wait here t u may w))

module _ {D : Type 0} {G : Ghosts D} where
  pub step_errand : (s t u v : Seat) (e : Errand D G) → Writes s t → Gains (taken_by t e) t u → PutsBack u e v → Writes s v
  step_errand s t u v e on a b = writes_on s t v on (writes_errand t u v e a b)

  pub step_failed : (s t u v : Seat) (e : Errand D G) → IsOrdered v.origin v.seen → Writes s t → Gains (taken_by t e) t u → LeavesBroken u e v → Fails s v
  step_failed s t u v e o on a b = fails_on s t v o.rising on (fails_errand t u v e o.rising a b)
