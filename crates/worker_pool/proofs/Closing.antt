-- From what a seat knew to the whole history.
use Rattle.std.proofs.Common.{◌≡◌, ℕ, zero, suc, ◌+◌, ◌-◌, ◌<◌, ◌≤◌, List, [], ◌∷◌, ◌++◌, Bool, drop, get_or, length, map, refl, sym, ◌∙◌, ap, subst, arith, append_assoc, eq-eqb, if◌then◌else◌, Option, Some}
use Rattle.std.specs.Prelude.{All}
use Rattle.std.proofs.lemmas.List.{append-nil, length-map}
use Rattle.std.proofs.lemmas.List.Sums.{sum_by-cons}
use Rattle.std.specs.Prelude.{sum_by}
use mathlib.Core.Logic.{dite}
use native.Mathlib.Decide.{dec_lt, ℕ_discrete}
use Rattle.atomic_table.specs.Seated.{TableId}
use Rattle.door_worker.specs.Answers.{Answered, Answers, AreDurable, ArePublished, IsDurable, IsPublished, IsRight, calls_of, store_failed}
use Rattle.door_worker.specs.Doors.{AreHeld}
use Rattle.door_worker.specs.Languages.{Language}
use Rattle.door_worker.proofs.Going.{durable_more, published_more, worker_is}
use Rattle.exchange_shared.proofs.Seats.{own_append}
use Rattle.exchange_shared.specs.Seats.{Seat, worker_of}
use Rattle.exchange_state.proofs.Owning.{failed_append, failed_own, mine_append, mine_own}
use Rattle.exchange_state.specs.declared.entries.Entry.{Entry}
use Rattle.exchange_state.specs.declared.entries.Origin.{Origin}
use Rattle.exchange_state.specs.Views.{calls, failed, failures, mine, own}
use Rattle.hist_lock.specs.Views.{Complete}
use Rattle.link_door.specs.Doors.{Held}
use Rattle.link_door.specs.declared.link.Link.{Ghosts}
use Rattle.plain_exchange.specs.History.{Call}
use Rattle.worker_pool.proofs.Counting.{failed_from, from_all}
use Rattle.worker_pool.proofs.Joining.{had_is}
use Rattle.worker_pool.specs.Ending.{IsWritten}
use Rattle.worker_pool.specs.Hiring.{AreBack, AreDone, AreHired, IsJoined, Job}
use Rattle.worker_pool.specs.Pools.{AreServed, AreServedFrom, History, IsServedBy}
use Rattle.worker_pool.specs.declared.pool.PoolEnd.{PoolEnd}

-- ---- the list goes on, by entries of others

no_calls : (w : ℕ) (more : List Entry) → own w more ≡ [] → mine w (calls more) ≡ []
no_calls w more none = mine_own w more ∙ ap calls none

no_failures : (w : ℕ) (more : List Entry) → own w more ≡ [] → failed more w ≡ 0
no_failures w more none = failed_own w more ∙ ap failures none

no_more : (n : ℕ) → n + 0 ≡ n
no_more n = omega arith

durable_later : (all : List Answered) (w : ℕ) (o : Origin) (l more : List Entry) → mine w (calls more) ≡ [] → AreDurable all w o l → AreDurable all w o (l ++ more)
durable_later [] w o l more none d = tt
durable_later (a ∷ all) w o l more none d =
    (λ is. subst (λ (n : ℕ). IsDurable n w o (l ++ more)) (no_more (length (calls_of all))) (durable_more (length (calls_of all)) w o [] l more none (d.0 is)), durable_later all w o l more none d.1)

published_later : (all : List Answered) (w : ℕ) (o : Origin) (l more : List Entry) → mine w (calls more) ≡ [] → ArePublished all w o l → ArePublished all w o (l ++ more)
published_later [] w o l more none p = tt
published_later (a ∷ all) w o l more none p =
    (λ is. subst (λ (n : ℕ). IsPublished n w o (l ++ more)) (no_more (length (calls_of all))) (published_more (length (calls_of all)) w o [] l more none (p.0 is)), published_later all w o l more none p.1)

-- what stands behind the list of a joined worker is none of its entries
nothing_behind : (a b : List Entry) → a ++ b ≡ a → b ≡ []
nothing_behind [] b e = e
nothing_behind (x ∷ a) b e = nothing_behind a b (ap (drop 1) e)

pub others_behind : (w : ℕ) (l more : List Entry) → own w (l ++ more) ≡ own w l → own w more ≡ []
others_behind w l more e = nothing_behind (own w l) (own w more) (sym (own_append w l more) ∙ e)

-- ---- the messages of one door

-- The seat s had seen nothing of its worker, became t, and the history goes on behind that by entries of others.
module _ {L : Type 0} (K : Ghosts L) (language : Language) where
  at_end : (all : List Answered) (s t : Seat) (past : History) (more : List Entry) → Answers language all s t → own s.worker s.seen ≡ [] → past.origin ≡ t.origin → past.seen ≡ t.seen ++ more → mine t.worker (calls more) ≡ []
      → (held after : Option (Held L)) → AreHeld K language all held after → IsServedBy K language past t.worker all held after
  at_end all s t past more a fresh origin seen others held after door =
      let w = t.worker in
      let same : t.worker ≡ s.worker = ap (λ (u : Seat). u.worker) a.goes.same in
      let of_t : mine w (calls t.seen) ≡ calls_of all =
      ap (λ (u : Seat). mine u.worker (calls u.seen)) a.goes.same ∙ mine_append s.worker s.seen a.goes.more ∙ ap (λ (x : List Call). x ++ mine s.worker (calls a.goes.more)) (no_calls s.worker s.seen fresh) ∙ a.goes.calls_are in
      let failed_t : failed t.seen w ≡ 0 + store_failed all =
      ap (λ (u : Seat). failed u.seen u.worker) a.goes.same ∙ failed_append s.worker s.seen a.goes.more ∙ ap (λ (x : ℕ). x + failed a.goes.more s.worker) (no_failures s.worker s.seen fresh) ∙ ap (λ (x : ℕ). 0 + x) a.goes.failures_are in
      let failed_all : failed past.seen w ≡ failed t.seen w + failed more w = ap (λ (l : List Entry). failed l w) seen ∙ failed_append w t.seen more in
      record {
        right = subst (λ (n : ℕ). All (IsRight language n) all) (sym same) a.right;
        calls_are = ap (λ (l : List Entry). mine w (calls l)) seen ∙ mine_append w t.seen more ∙ ap (λ (x : List Call). mine w (calls t.seen) ++ x) others ∙ append-nil (mine w (calls t.seen)) ∙ of_t;
        failures_are = omega (arith, failed_t, failed_all);
        durable = subst (λ (o : Origin). AreDurable all w o past.seen) (sym origin) (subst (λ (l : List Entry). AreDurable all w t.origin l) (sym seen) (durable_later all w t.origin t.seen more others a.durable));
        published = subst (λ (o : Origin). ArePublished all w o past.seen) (sym origin) (subst (λ (l : List Entry). ArePublished all w t.origin l) (sym seen) (published_later all w t.origin t.seen more others a.published));
        door = door;
      }

-- ---- no call behind the list of worker 0's seat

own_none : (w : ℕ) (a b : List Entry) → own w (a ++ b) ≡ [] → own w b ≡ []
own_none w a b e = nothing_in (own w a) (own w b) (sym (own_append w a b) ∙ e)
  where
    nothing_in : (x y : List Entry) → x ++ y ≡ [] → y ≡ []
    nothing_in [] y e = e
    nothing_in (z ∷ x) y e = absurd (cc e)

pub head_of : {X : Type 0} (l : List X) → 0 < length l → X
head_of [] lt = absurd (omega arith)
head_of (x ∷ l) lt = x

none_at_all : (h : List Call) → ((n : ℕ) → mine n h ≡ []) → h ≡ []
none_at_all [] f = refl
none_at_all (c ∷ h) f =
    let e = eq-eqb c.worker c.worker refl in
    let z : c ∷ mine c.worker h ≡ [] = subst (λ (b : Bool). (if b then c ∷ mine c.worker h else mine c.worker h) ≡ []) e (f c.worker) in
    absurd (cc z)

-- what is behind the list of job k's seat, and of its worker
module _ {G : Type 0} (here : TableId) (jobs : List (Job G)) (s : Seat) (failed : Bool) (past : History) (end : PoolEnd) (j : IsJoined here jobs (length jobs) s) (w : IsWritten s failed past end) (c : Complete worker_of s past.seen) where
  abbrev rest_of : (k : ℕ) (b : Seat) (d : Job G) → k < length jobs → (get_or jobs k d).0 ≡ Some b → List Entry
  rest_of k b d lt has = (j.fronts k b d lt has).begins.0

  seen_of : (k : ℕ) (b : Seat) (d : Job G) (lt : k < length jobs) (has : (get_or jobs k d).0 ≡ Some b) → past.seen ≡ b.seen ++ (rest_of k b d lt has ++ w.behind)
  seen_of k b d lt has = w.seen ∙ ap (λ (l : List Entry). l ++ w.behind) (sym (j.fronts k b d lt has).begins.1) ∙ append_assoc b.seen (rest_of k b d lt has) w.behind

  origin_of : (k : ℕ) (b : Seat) (d : Job G) (lt : k < length jobs) (has : (get_or jobs k d).0 ≡ Some b) → past.origin ≡ b.origin
  origin_of k b d lt has = w.origin ∙ (j.fronts k b d lt has).origin

  -- of another worker than 0 no entry
  none_of : (k : ℕ) (b : Seat) (d : Job G) (lt : k < length jobs) (has : (get_or jobs k d).0 ≡ Some b) → 0 < k → own k (rest_of k b d lt has ++ w.behind) ≡ []
  none_of k b d lt has some =
      let own_is : own k past.seen ≡ own k b.seen = c.0 (k - 1) (k, own k b.seen) (j.ended k b d some lt has) in
      others_behind k b.seen (rest_of k b d lt has ++ w.behind) (ap (own k) (sym (seen_of k b d lt has)) ∙ own_is)

  -- of worker 0 no call
  none_of_first : (b : Seat) (d : Job G) (lt : 0 < length jobs) (has : (get_or jobs 0 d).0 ≡ Some b) → mine 0 (calls (rest_of 0 b d lt has ++ w.behind)) ≡ []
  none_of_first b d lt has =
      let rest = rest_of 0 b d lt has in
      let own_is : own 0 (b.seen ++ rest) ≡ own 0 b.seen = ap (own 0) (j.fronts 0 b d lt has).begins.1 ∙ j.first b d has in
      let behind_none : mine 0 (calls w.behind) ≡ [] = subst (λ (n : ℕ). mine n (calls w.behind) ≡ []) j.worker w.none in
      mine_append 0 rest w.behind ∙ ap (λ (l : List Call). l ++ mine 0 (calls w.behind)) (no_calls 0 rest (others_behind 0 b.seen rest own_is)) ∙ behind_none

  no_call_of : (k : ℕ) (b : Seat) (d : Job G) (lt : k < length jobs) (has : (get_or jobs k d).0 ≡ Some b) → mine k (calls (rest_of k b d lt has ++ w.behind)) ≡ []
  no_call_of zero b d lt has = none_of_first b d lt has
  no_call_of (suc k) b d lt has = no_calls (suc k) (rest_of (suc k) b d lt has ++ w.behind) (none_of (suc k) b d lt has (omega arith))

  -- so no call at all
  no_behind_of : (n : ℕ) → AreBack here jobs → mine n (calls w.behind) ≡ []
  no_behind_of n back = dite (ℕ_discrete n 0)
      (λ is. subst (λ (m : ℕ). mine m (calls w.behind) ≡ []) (j.worker ∙ sym is) w.none)
      (λ other. dite (dec_lt n (length jobs))
      (λ lt.
      let d = head_of jobs back.some in
      let b = back.each n d lt in
      no_calls n w.behind (own_none n (rest_of n b.seat d lt b.has) w.behind (none_of n b.seat d lt b.has (omega (arith, other)))))
      (λ ge. let made : s.made ≡ length jobs = j.made in
      no_calls n w.behind (own_none n s.seen w.behind (ap (own n) (sym w.seen) ∙ c.1 n (omega (arith, ge, made))))))

  pub no_behind : AreBack here jobs → calls w.behind ≡ []
  no_behind back = none_at_all (calls w.behind) (λ n. no_behind_of n back)

-- ---- all doors

next_worker : (w k : ℕ) → w + suc k ≡ (w + 1) + k
next_worker w k = omega arith

module _ {L : Type 0} (K : Ghosts L) (language : Language) (past : History) where
  sum_few : (w : ℕ) (alls : List (List Answered)) (helds afters : List (Option (Held L))) → AreServedFrom K language past w alls helds afters → sum_by store_failed alls ≤ failed_from w (length alls) past.seen
  sum_few w [] helds afters s = omega arith
  sum_few w (all ∷ alls) (held ∷ helds) (after ∷ afters) s =
      let here : store_failed all ≤ failed past.seen w = s.0.failures_are in
      let rest = sum_few (w + 1) alls helds afters s.1 in
      let both : sum_by store_failed (all ∷ alls) ≡ store_failed all + sum_by store_failed alls = sum_by-cons store_failed all alls in
      omega (arith, here, rest, both)
  sum_few w (all ∷ alls) [] afters s = absurd s
  sum_few w (all ∷ alls) (held ∷ helds) [] s = absurd s

  pub all_of : (alls : List (List Answered)) (helds afters : List (Option (Held L))) → AreServedFrom K language past 0 alls helds afters → ((w : ℕ) → length helds ≤ w → mine w (calls past.seen) ≡ []) → AreServed K language past helds afters
  all_of alls helds afters s others = let few = sum_few 0 alls helds afters s in let most = from_all 0 (length alls) past.seen in record { alls = alls; each = s; others = others; few = omega (arith, few, most) }

module _ {G L : Type 0} (K : Ghosts L) (held_of : G → Option (Held L)) (faults_of : G → ℕ) (language : Language) (here : TableId) where
  abbrev ServedAt : History → ℕ → Job G → Job G → Type 0
  ServedAt past w a b = (all : List Answered) × IsServedBy K language past w all (held_of a.1) (held_of b.1)

  serves_one : (o : Origin) (old new : List (Job G)) → AreHired here o old → AreDone K held_of faults_of language here old new → (s : Seat) (failed : Bool) (past : History) (end : PoolEnd) → IsJoined here new (length new) s → IsWritten s failed past end
      → Complete worker_of s past.seen → (k : ℕ) (d : Job G) → k < length old → ServedAt past k (get_or old k d) (get_or new k d)
  serves_one o old new h e s failed past end j w c k d lt =
      let many : length new ≡ length old = e.many in
      let there : k < length new = omega (arith, many, lt) in
      let a = h.each k d lt in
      let b = e.each k d lt in
      let same = had_is K held_of faults_of language here o k (get_or old k d) (get_or new k d) a b in
      let more : List Entry = rest_of here new s failed past end j w c k b.after d there b.has ++ w.behind in
      let number : b.after.worker ≡ k = worker_is _ _ b.before b.after b.served.answers.goes ∙ ap (λ (x : Seat). x.worker) same ∙ a.fresh.worker in
      let fresh : own b.before.worker b.before.seen ≡ [] = ap (own b.before.worker) (ap (λ (x : Seat). x.seen) same ∙ a.fresh.seen) in
      let others : mine b.after.worker (calls more) ≡ [] = ap (λ (n : ℕ). mine n (calls more)) number ∙ no_call_of here new s failed past end j w c k b.after d there b.has in
      let from : past.origin ≡ b.after.origin = origin_of here new s failed past end j w c k b.after d there b.has in
      let seen : past.seen ≡ b.after.seen ++ more = seen_of here new s failed past end j w c k b.after d there b.has in (
        b.served.all,
        subst (λ (n : ℕ). IsServedBy K language past n b.served.all (held_of (get_or old k d).1) (held_of (get_or new k d).1)) number
            (at_end K language b.served.all b.before b.after past more b.served.answers fresh from seen others (held_of (get_or old k d).1) (held_of (get_or new k d).1) b.served.door),
      )

  collect : (past : History) (w : ℕ) (old new : List (Job G)) → length new ≡ length old → ((k : ℕ) (d : Job G) → k < length old → ServedAt past (w + k) (get_or old k d) (get_or new k d))
      → (alls : List (List Answered)) × AreServedFrom K language past w alls (map held_of (map (λ (j : Job G). j.1) old)) (map held_of (map (λ (j : Job G). j.1) new))
  collect past w [] [] many each = ([], tt)
  collect past w [] (y ∷ new) many each = absurd (omega (arith, many))
  collect past w (x ∷ old) [] many each = absurd (omega (arith, many))
  collect past w (x ∷ old) (y ∷ new) many each =
      let first : ServedAt past w x y = subst (λ (n : ℕ). ServedAt past n x y) (no_more w) (each 0 x (omega arith)) in
      let rest = collect past (w + 1) old new (omega (arith, many)) (λ k d lt. subst (λ (n : ℕ). ServedAt past n (get_or old k d) (get_or new k d)) (next_worker w k) (each (suc k) d (omega (arith, lt)))) in
      (first.0 ∷ rest.0, (first.1, rest.1))

  pub all_served : (o : Origin) (old new : List (Job G)) → AreHired here o old → AreDone K held_of faults_of language here old new → (s : Seat) (failed : Bool) (past : History) (end : PoolEnd) → IsJoined here new (length new) s → IsWritten s failed past end
      → Complete worker_of s past.seen → AreServed K language past (map held_of (map (λ (j : Job G). j.1) old)) (map held_of (map (λ (j : Job G). j.1) new))
  all_served o old new h e s failed past end j w c =
      let all = collect past 0 old new e.many (λ k d lt. subst (λ (n : ℕ). ServedAt past n (get_or old k d) (get_or new k d)) (omega arith) (serves_one o old new h e s failed past end j w c k d lt)) in
      all_of K language past all.0 _ _ all.1 no_others
    where
      -- worker 0's seat was made for as many workers as there are jobs
      no_others : (v : ℕ) → length (map held_of (map (λ (x : Job G). x.1) old)) ≤ v → mine v (calls past.seen) ≡ []
      no_others v le =
          let made : s.made ≡ length new = j.made in
          let same : length new ≡ length old = e.many in
          let doors : length (map held_of (map (λ (x : Job G). x.1) old)) ≡ length (map (λ (x : Job G). x.1) old) = length-map (map (λ (x : Job G). x.1) old) held_of in
          let jobs : length (map (λ (x : Job G). x.1) old) ≡ length old = length-map old (λ (x : Job G). x.1) in
          no_calls v past.seen (c.1 v (omega (arith, le, made, same, doors, jobs)))
