-- How seats come and go, and how a lock ends.
use Rattle.std.proofs.Common.{◌≡◌, ◌≢◌, ◌⊎◌, ℕ, suc, ◌-◌, ◌<◌, ◌≤◌, Bool, true, false, List, [], ◌∷◌, ◌++◌, length, get_or, set, refl, sym, ap, ◌∙◌, subst, ⊎_elim, inl, inr, arith, length-set}
use Rattle.std.specs.Prelude.{Option, Some, if◌then◌else◌, nat_le}
use Rattle.std.proofs.lemmas.Bool.Decides.{nat_tests}
use mathlib.Core.Logic.{dite}
use mathlib.Core.Option.{some, none, some-injective}
use mathlib.Core.Option as maybe
use mathlib.Core.List.{IsPrefix}
use native.Mathlib.Decide.{ℕ_discrete}
use lib.ListN.{get_elem?}
use lib.Seq.{set-get_or}
use Rattle.atomic_table.specs.Table.{State, Me, step, keeps, Allows, Splits, Joins, Final, Seen}
use Rattle.atomic_table.proofs.Lists.{at_set, at_snoc, set_again, set_else, at_longer}
use Rattle.hist_lock.specs.declared.view.View.{View}
use Rattle.hist_lock.specs.declared.view.Stage.{Stage}
use Rattle.hist_lock.specs.declared.view.Stage.TheVariants.{Fresh, Filling, Idle, Waiting, Holding, Committed, Joining, Spent}
use Rattle.hist_lock.specs.Entries.{entries_of, KnowsOwn, NamesOnce, longer, shorter}
use Rattle.hist_lock.specs.Rule.{StandsFrom, weight, live, turn_weight, Auxiliary, Placed, Agrees, AtHome, Away, Ended, Running, LockRule}
use Rattle.hist_lock.specs.Steps.{staged, parent, child, both, compared, spent_view, counting, comparing}
use Rattle.hist_lock.proofs.Logs.{knows-entries, none-parts, set_at, live-set, live-snoc, live-at, live-one, at_end, overtakes, whole}
use Rattle.hist_lock.proofs.Turns.{turn_lives}
use Rattle.hist_lock.proofs.Moves.{put, put_here, put_else, running, stays, placed, apart, no_turn, moved, still_known, still_away}

module _ {S O E : Type 0} (stands : O → S → List E → Type 0) (worker : E → ℕ) where
  abbrev V : Type 0
  V = View O E

  abbrev St : Type 0
  St = State (Option S) V

  abbrev H : Type 0
  H = List (maybe.Option (Option S))

  abbrev M : Type 0
  M = Me (Option S) V

  abbrev F : Type 0
  F = Auxiliary O E

  abbrev Run : St → Type 0
  Run = Running stands worker

  abbrev Rule : St → Type 0
  Rule = LockRule stands worker

  -- Before a split.
  pub counts : (slots id : ℕ) (me : M) → me.0.stage ≡ Idle → me.0.worker ≡ 0 → Allows Rule slots id me 0 (λ x. x) (counting worker (step slots 0 0 0 none) me)
  counts slots id me idle first s k _ at _ =
      let r = running stands worker s k id me.0 at (ap weight idle) in
      let p = placed stands worker r.f s.homes id me.0 me.0.stage (ap weight idle) (r.each_seat id me.0 at) in
      let none : entries_of worker me.0.made r.f.log ≡ [] = r.named me.0.made (let e = p.made first in omega arith) in
      (me.0, keeps, tt, stays stands worker s k 0 id me at, (refl, (none-parts worker me.0.made me.0.seen p.knows.0 (ap (entries_of worker me.0.made) (sym p.knows.1) ∙ none)).0))

  -- A split.
  abbrev forked : F → ℕ → F
  forked f n = record { origin = f.origin; log = f.log; drawn = f.drawn; served = f.served; made = suc f.made; out = suc f.out; ended = f.ended; seat_of_ticket = f.seat_of_ticket; seat_of_worker = put f.seat_of_worker f.made n }

  forks_placed : (f : F) (n id j : ℕ) (u : V) → j ≢ id → f.seat_of_worker 0 ≡ id → Placed worker f j u → Placed worker (forked f n) j u
  forks_placed f n id j u other at_id p = let low : u.worker < f.made = p.number in
      let not_first : u.worker ≢ 0 = λ z. other (sym p.seat_of_worker ∙ (ap f.seat_of_worker z ∙ at_id)) in
      record { origin = p.origin; number = omega arith; seat_of_worker = put_else f.seat_of_worker f.made n u.worker (λ e. omega arith) ∙ p.seat_of_worker; knows = p.knows; made = λ z. absurd (not_first z); ended = λ z. absurd (not_first z) }

  not_first : (f : F) (id j : ℕ) (u : V) → j ≢ id → f.seat_of_worker 0 ≡ id → Placed worker f j u → u.worker ≢ 0
  not_first f id j u other at_id p z = other (sym p.seat_of_worker ∙ (ap f.seat_of_worker z ∙ at_id))

  forks_others : (f : F) (homes : H) (n id j : ℕ) (u : V) (st : Stage) → j ≢ id → f.seat_of_worker 0 ≡ id → Agrees worker f homes j u st → Agrees worker (forked f n) homes j u st
  forks_others f homes n id j u Fresh other at_id fit = absurd fit
  forks_others f homes n id j u Filling other at_id fit = absurd fit
  forks_others f homes n id j u Idle other at_id fit = (forks_placed f n id j u other at_id fit.0, λ z. absurd (not_first f id j u other at_id fit.0 z))
  forks_others f homes n id j u Waiting other at_id fit = (forks_placed f n id j u other at_id fit.0, (λ z. absurd (not_first f id j u other at_id fit.0 z)), fit.2)
  forks_others f homes n id j u Holding other at_id fit = (forks_placed f n id j u other at_id fit.0, (λ z. absurd (not_first f id j u other at_id fit.0 z)), fit.2)
  forks_others f homes n id j u Committed other at_id fit = (forks_placed f n id j u other at_id fit.0, (λ z. absurd (not_first f id j u other at_id fit.0 z)), fit.2)
  forks_others f homes n id j u Joining other at_id fit = (forks_placed f n id j u other at_id fit.0, (λ z. absurd (not_first f id j u other at_id fit.0 z)), fit.2, fit.3, let low : u.joined < f.made = fit.4.number in record { origin = fit.4.origin; other = fit.4.other; number = omega arith })
  forks_others f homes n id j u Spent other at_id fit = tt

  pub forks : (id : ℕ) (v : V) → v.stage ≡ Idle → v.worker ≡ 0 → Splits Rule id v (parent v) (child v)
  forks id v idle first s k at =
      let r = running stands worker s k id v at (ap weight idle) in let f = r.f in
      let n : ℕ = length s.views in
      let fit = subst (Agrees worker f s.homes id v) idle (r.each_seat id v at) in
      let p = fit.0 in
      let mine_post : f.seat_of_worker 0 ≡ id = ap f.seat_of_worker (sym first) ∙ p.seat_of_worker in
      let made : v.made ≡ f.made = p.made first in
      let low : v.worker < f.made = p.number in
      let vs : List V = set s.views id (parent v) in
      let wide : length vs ≡ n = length-set s.views id (parent v) in
      let none : entries_of worker v.made f.log ≡ [] = r.named v.made (omega arith) in
      inr record {
        f = forked f n;
        words = r.words;
        few = r.few;
        behind = r.behind;
        value = ⊎_elim (λ (h : AtHome stands worker f s.homes). inl h)
            (λ (a : Away stands worker f s.homes s.views). let b = still_away stands worker f (forked f n) s.homes s.views id v (parent v) at (ap turn_weight idle) a refl in
            inr (b.0, (b.1.0, at_longer vs (child v ∷ []) (f.seat_of_ticket f.served) b.1.0 b.1.1, b.1.2))) r.value;
        each_seat = λ j u e. ⊎_elim
            (λ (old : get_elem? vs j ≡ some u). ⊎_elim
            (λ (t : (j ≡ id) × (parent v ≡ u)). subst (λ (z : ℕ × V). Agrees worker (forked f n) s.homes z.0 z.1 z.1.stage) (λ i. (sym t.0 i, t.1 i))
            (subst (Agrees worker (forked f n) s.homes id (parent v)) (sym idle)
            (record { origin = p.origin; number = omega arith; seat_of_worker = put_else f.seat_of_worker f.made n v.worker (λ e. omega arith) ∙ p.seat_of_worker; knows = p.knows; made = λ z. ap suc (p.made z); ended = p.ended }, λ z. ap suc (fit.1 z))))
            (λ (t : (j ≢ id) × (get_elem? s.views j ≡ some u)). forks_others f s.homes n id j u u.stage t.0 mine_post (r.each_seat j u t.1)) (at_set s.views id j (parent v) u old))
            (λ (t : (j ≡ length vs) × (child v ≡ u)). subst (λ (z : ℕ × V). Agrees worker (forked f n) s.homes z.0 z.1 z.1.stage) (λ i. (sym t.0 i, t.1 i)) (
              record {
                origin = p.origin;
                number = omega arith;
                seat_of_worker = put_here f.seat_of_worker f.made n v.made made ∙ sym wide;
                knows = (p.knows.0, p.knows.1, (none-parts worker v.made v.seen p.knows.0 (ap (entries_of worker v.made) (sym p.knows.1) ∙ none)).1);
                made = λ z. absurd (omega arith);
                ended = λ z. absurd (omega arith);
              },
              λ z. absurd (omega arith),
            ))
            (at_end vs (child v) u j e);
        all_out = let a = live-set s.views id v (parent v) at in let b = live-snoc vs (child v) in let c = r.all_out in omega arith;
        known = let q = still_known stands worker s r id v (parent v) at (ap weight idle) (λ e. e) in (q.0, q.1, at_longer vs (child v ∷ []) q.0 q.1 q.2, q.3, q.4);
        named = λ w le. r.named w (omega arith);
        each_ended = λ i q e. let d = r.each_ended i q e in let few : q.0 < f.made = d.0 in (
          omega arith,
          d.1,
          (
            d.2.0,
            ap (get_elem? (vs ++ child v ∷ [])) (put_else f.seat_of_worker f.made n q.0 (λ e. omega arith))
                ∙ at_longer vs (child v ∷ []) (f.seat_of_worker q.0) d.2.0 (set_else s.views id (f.seat_of_worker q.0) (parent v) (apart stands worker s.views id (f.seat_of_worker q.0) v d.2.0 at d.2.1 (ap weight idle) d.2.2) ∙ d.2.1),
            d.2.2,
          ),
        );
        once = r.once;
      }

  -- A join.
  abbrev merged : F → List E → ℕ → F
  merged f l w = record { origin = f.origin; log = f.log; drawn = f.drawn; served = f.served; made = f.made; out = f.out - 1; ended = f.ended ++ (w, entries_of worker w l) ∷ []; seat_of_ticket = f.seat_of_ticket; seat_of_worker = f.seat_of_worker }

  merges_placed : (f : F) (l : List E) (w id j : ℕ) (u : V) → j ≢ id → f.seat_of_worker 0 ≡ id → Placed worker f j u → Placed worker (merged f l w) j u
  merges_placed f l w id j u other at_id p =
      record { origin = p.origin; number = p.number; seat_of_worker = p.seat_of_worker; knows = p.knows; made = p.made; ended = λ z. absurd (not_first f id j u other at_id p z) }

  merges_others : (f : F) (homes : H) (l : List E) (w id j : ℕ) (u : V) (st : Stage) → j ≢ id → f.seat_of_worker 0 ≡ id → Agrees worker f homes j u st → Agrees worker (merged f l w) homes j u st
  merges_others f homes l w id j u Fresh other at_id fit = absurd fit
  merges_others f homes l w id j u Filling other at_id fit = absurd fit
  merges_others f homes l w id j u Idle other at_id fit = (merges_placed f l w id j u other at_id fit.0, λ z. absurd (not_first f id j u other at_id fit.0 z))
  merges_others f homes l w id j u Waiting other at_id fit = (merges_placed f l w id j u other at_id fit.0, (λ z. absurd (not_first f id j u other at_id fit.0 z)), fit.2)
  merges_others f homes l w id j u Holding other at_id fit = (merges_placed f l w id j u other at_id fit.0, (λ z. absurd (not_first f id j u other at_id fit.0 z)), fit.2)
  merges_others f homes l w id j u Committed other at_id fit = (merges_placed f l w id j u other at_id fit.0, (λ z. absurd (not_first f id j u other at_id fit.0 z)), fit.2)
  merges_others f homes l w id j u Joining other at_id fit = (merges_placed f l w id j u other at_id fit.0, (λ z. absurd (not_first f id j u other at_id fit.0 z)), fit.2, fit.3, record { origin = fit.4.origin; other = fit.4.other; number = fit.4.number })
  merges_others f homes l w id j u Spent other at_id fit = tt

  -- the longer of two lists, as cases
  longer_cases : (a b : List E) (P : List E → List E → Type 0) → (length a ≤ length b → P b a) → (length b < length a → P a b) → P (longer a b) (shorter a b)
  longer_cases a b P le lt = at_test (nat_le (length a) (length b)) refl
    where
      at_test : (t : Bool) → nat_le (length a) (length b) ≡ t → P (if t then b else a) (if t then a else b)
      at_test true is = le (grind (arith, nat_tests))
      at_test false is = lt (grind (arith, nat_tests))

  -- what the first worker has not seen of a longer list is none of its own
  knows_longer : (w : ℕ) (a b log : List E) → KnowsOwn worker w a log → (rest : List E) → log ≡ b ++ rest → length a ≤ length b → KnowsOwn worker w b log
  knows_longer w a b log k rest e le = let o = overtakes a b k.0 rest (sym k.1 ∙ e) le in
      (rest, e, (none-parts worker w o.0 rest (ap (entries_of worker w) (sym o.2) ∙ k.2)).1)

  both_know : (w : ℕ) (a b log rest : List E) → KnowsOwn worker w a log → log ≡ b ++ rest → KnowsOwn worker w (longer a b) log × IsPrefix (shorter a b) log × ((a ≡ log) ⊎ (b ≡ log) → longer a b ≡ log)
  both_know w a b log rest k e = longer_cases a b (λ l s. KnowsOwn worker w l log × IsPrefix s log × ((a ≡ log) ⊎ (b ≡ log) → l ≡ log))
      (λ le. (knows_longer w a b log k rest e le, (k.0, sym k.1), λ o. ⊎_elim (λ (t : a ≡ log). let n : length a ≡ length log = ap length t in whole b log rest e (omega arith)) (λ (t : b ≡ log). t) o))
      (λ lt. (k, (rest, sym e), λ o. ⊎_elim (λ (t : a ≡ log). t) (λ (t : b ≡ log). let n : length b ≡ length log = ap length t in whole a log k.0 k.1 (omega arith)) o))

  -- a worker that was not joined before
  joined_once : (ended : List (ℕ × List E)) (w : ℕ) (l : List E) → NamesOnce ended → ((i : ℕ) (q : ℕ × List E) → get_elem? ended i ≡ some q → q.0 ≢ w) → NamesOnce (ended ++ (w, l) ∷ [])
  joined_once ended w l once other i j d e at at' same =
      ⊎_elim (λ (a : get_elem? ended i ≡ some d). ⊎_elim
      (λ (b : get_elem? ended j ≡ some e). once i j d e a b same)
      (λ (b : (j ≡ length ended) × ((w, l) ≡ e)). absurd (other i d a (same ∙ ap (λ (q : ℕ × List E). q.0) (sym b.1))))
      (at_end ended (w, l) e j at'))
      (λ (a : (i ≡ length ended) × ((w, l) ≡ d)). ⊎_elim
      (λ (b : get_elem? ended j ≡ some e). absurd (other j e b (sym same ∙ ap (λ (q : ℕ × List E). q.0) (sym a.1))))
      (λ (b : (j ≡ length ended) × ((w, l) ≡ e)). a.0 ∙ sym b.0)
      (at_end ended (w, l) e j at'))
      (at_end ended (w, l) d i at)

  pub merges : (id : ℕ) (v : V) (other : ℕ) (w : V) → v.stage ≡ Idle → v.worker ≡ 0 → w.stage ≡ Idle → Joins Rule id v other w (both worker v w) spent_view
  merges id v other w idle first idle' s k at two there =
      let r = running stands worker s k id v at (ap weight idle) in let f = r.f in
      let u : V = both worker v w in
      let vs : List V = set s.views id u in
      let at' : get_elem? s.views other ≡ some w = sym (set_else s.views id other u two) ∙ there in
      let fit = subst (Agrees worker f s.homes id v) idle (r.each_seat id v at) in
      let fit' = subst (Agrees worker f s.homes other w) idle' (r.each_seat other w at') in
      let p = fit.0 in let p' = fit'.0 in
      let mine_post : f.seat_of_worker 0 ≡ id = ap f.seat_of_worker (sym first) ∙ p.seat_of_worker in
      let know = both_know v.worker v.seen w.seen f.log p'.knows.0 p.knows p'.knows.1 in
      let a = live-set s.views id v u at in
      let b = live-set vs other w spent_view there in
      let c = r.all_out in
      let one : weight v.stage ≡ 1 = ap weight idle in
      let one' : weight w.stage ≡ 1 = ap weight idle' in
      let vs' : List V = set vs other spent_view in
      let still : get_elem? vs' id ≡ some u = set_else vs other id spent_view (λ e. two (sym e)) ∙ set_at s.views id v u at in
      let d = live-at vs' id u still in
      let some_out : f.out ≡ suc (f.out - 1) = omega arith in
      inr record {
        f = merged f w.seen w.worker;
        words = r.words;
        few = r.few;
        behind = r.behind;
        value = ⊎_elim (λ (h : AtHome stands worker f s.homes). inl h)
            (λ (g : Away stands worker f s.homes s.views).
            let h = still_away stands worker f f s.homes s.views id v u at (ap turn_weight idle) g refl in
            let h' = still_away stands worker f (merged f w.seen w.worker) s.homes vs other w spent_view there (ap turn_weight idle') h refl in inr h') r.value;
        each_seat = λ j x e. ⊎_elim
            (λ (t : (j ≡ other) × (spent_view ≡ x)). subst (λ (z : V). Agrees worker (merged f w.seen w.worker) s.homes j z z.stage) t.1 tt)
            (λ (t : (j ≢ other) × (get_elem? vs j ≡ some x)). ⊎_elim
            (λ (t' : (j ≡ id) × (u ≡ x)). subst (λ (z : ℕ × V). Agrees worker (merged f w.seen w.worker) s.homes z.0 z.1 z.1.stage) (λ i. (sym t'.0 i, t'.1 i)) (
              record { origin = p.origin; number = p.number; seat_of_worker = p.seat_of_worker; knows = know.0; made = p.made; ended = λ z. ap (λ l. l ++ (w.worker, entries_of worker w.worker w.seen) ∷ []) (p.ended z) },
              (λ z. fit.1 z ∙ some_out),
              know.1,
              p.knows,
              record { origin = p'.origin; other = let ne = not_first f id other w (λ e. two e) mine_post p' in omega arith; number = p'.number },
            ))
            (λ (t' : (j ≢ id) × (get_elem? s.views j ≡ some x)). merges_others f s.homes w.seen w.worker id j x x.stage t'.0 mine_post (r.each_seat j x t'.1)) (at_set s.views id j u x t.1))
            (at_set vs other j spent_view x e);
        all_out = omega arith;
        known = let q = r.known in dite (ℕ_discrete q.0 id)
            (λ same. let is : q.1 ≡ v = some-injective q.1 v (sym q.2 ∙ (ap (get_elem? s.views) same ∙ at)) in (id, u, still, refl, know.2 (inl (ap (λ (y : V). y.seen) (sym is) ∙ q.4))))
            (λ ne. dite (ℕ_discrete q.0 other)
            (λ same. let is : q.1 ≡ w = some-injective q.1 w (sym q.2 ∙ (ap (get_elem? s.views) same ∙ at')) in (id, u, still, refl, know.2 (inr (ap (λ (y : V). y.seen) (sym is) ∙ q.4))))
            (λ ne'. (q.0, q.1, set_else vs other q.0 spent_view ne' ∙ (set_else s.views id q.0 u ne ∙ q.2), q.3, q.4)));
        named = r.named;
        each_ended = λ i q e. ⊎_elim
            (λ (old : get_elem? f.ended i ≡ some q). let g = r.each_ended i q old in (
              g.0,
              g.1,
              (
                g.2.0,
                set_else vs other (f.seat_of_worker q.0) spent_view (apart stands worker s.views other (f.seat_of_worker q.0) w g.2.0 at' g.2.1 one' g.2.2)
                    ∙ (set_else s.views id (f.seat_of_worker q.0) u (apart stands worker s.views id (f.seat_of_worker q.0) v g.2.0 at g.2.1 one g.2.2) ∙ g.2.1),
                g.2.2,
              ),
            ))
            (λ (new : (w.worker, entries_of worker w.worker w.seen) ≡ q). subst (Ended worker (merged f w.seen w.worker) vs') new
            (p'.number, knows-entries worker w.worker w.seen f.log p'.knows, (spent_view, ap (get_elem? vs') p'.seat_of_worker ∙ set_at vs other w spent_view there, refl)))
            (at_snoc f.ended (w.worker, entries_of worker w.worker w.seen) q i e);
        once = joined_once f.ended w.worker (entries_of worker w.worker w.seen) r.once (λ i q e is.
            let g = r.each_ended i q e in
            apart stands worker s.views other (f.seat_of_worker q.0) w g.2.0 at' g.2.1 one' g.2.2 (ap f.seat_of_worker is ∙ p'.seat_of_worker));
      }

  -- After a join.
  pub compares : (slots id : ℕ) (me : M) → me.0.stage ≡ Joining → me.0.worker ≡ 0 → Allows Rule slots id me 0 (λ x. x) (comparing worker (step slots 0 0 0 none) me)
  compares slots id me st first s k _ at _ =
      let r = running stands worker s k id me.0 at (ap weight st) in let f = r.f in
      let fit = subst (Agrees worker f s.homes id me.0) st (r.each_seat id me.0 at) in
      let p = fit.0 in
      let w : V = compared me.0 in
      let n : me.0.out ≡ suc f.out = fit.1 first in (
        w,
        keeps,
        tt,
        inr (moved stands worker s r id me.0 w f.log f.drawn f.served f.seat_of_ticket (set s.words 0 (get_or s.words 0 0)) s.homes at (ap weight st) refl (set-get_or s.words 0 0 ∙ r.words) r.few r.behind
            (⊎_elim (λ (h : AtHome stands worker f s.homes). inl h) (λ (a : Away stands worker f s.homes s.views). inr (still_away stands worker f f s.homes s.views id me.0 w at (ap turn_weight st) a refl)) r.value)
            (λ j u other fits. fits)
            (record { origin = p.origin; number = p.number; seat_of_worker = p.seat_of_worker; knows = p.knows; made = p.made; ended = p.ended }, λ _. let m : me.0.out - 1 ≡ f.out = omega arith in m)
            (still_known stands worker s r id me.0 w at refl (λ e. e)) r.named (λ q d. d.1)),
        (
          refl,
          omega arith,
          λ le. let o = overtakes me.0.shorter_seen me.0.seen fit.2.0 p.knows.0 (fit.2.1 ∙ p.knows.1) le in (o.0, sym o.1),
          sym (knows-entries worker me.0.worker me.0.seen f.log p.knows) ∙ knows-entries worker me.0.worker me.0.seen_before f.log fit.3,
          subst (λ (l : List (ℕ × List E)). NamesOnce l) (sym (p.ended first)) r.once,
          fit.4.origin ∙ sym p.origin,
          fit.4.other,
          (let m = p.made first in let low : me.0.joined < f.made = fit.4.number in omega arith),
        ),
      )

  -- A seat that is kept for what it has seen.
  pub records : (id : ℕ) (v : V) → v.stage ≡ Idle → Splits Rule id v v (staged Spent v)
  records id v idle s k at =
      let r = running stands worker s k id v at (ap weight idle) in let f = r.f in
      let past : V = staged Spent v in
      let same : set s.views id v ≡ s.views = set_again s.views id v at in
      inr (subst (λ (vs : List V). Run record { words = s.words; homes = s.homes; views = vs ++ past ∷ [] }) (sym same) record {
        f = f;
        words = r.words;
        few = r.few;
        behind = r.behind;
        value = ⊎_elim (λ (h : AtHome stands worker f s.homes). inl h)
            (λ (a : Away stands worker f s.homes s.views). inr (a.0, (a.1.0, at_longer s.views (past ∷ []) (f.seat_of_ticket f.served) a.1.0 a.1.1, a.1.2))) r.value;
        each_seat = λ j u e. ⊎_elim (r.each_seat j u) (λ (t : past ≡ u). subst (λ (z : V). Agrees worker f s.homes j z z.stage) t tt) (at_snoc s.views past u j e);
        all_out = let a = live-snoc s.views past in let b = r.all_out in omega arith;
        known = let q = r.known in (q.0, q.1, at_longer s.views (past ∷ []) q.0 q.1 q.2, q.3, q.4);
        named = r.named;
        each_ended = λ i q e. let d = r.each_ended i q e in (d.0, d.1, (d.2.0, at_longer s.views (past ∷ []) (f.seat_of_worker q.0) d.2.0 d.2.1, d.2.2));
        once = r.once;
      })

  -- The end, where no seat is out: the seat has seen the whole list, and the value is at home.
  pub ends : (id : ℕ) (v : V) (ws : List ℕ) (xs : List (Option S)) → v.stage ≡ Idle → v.worker ≡ 0 → v.out ≡ 0 → Final (Seen Rule id v) ws xs
      → (x : S) × (get_elem? xs 0 ≡ some (Some x)) × StandsFrom stands v.origin x v.seen × ((k : ℕ) (e : ℕ × List E) → get_elem? v.ended k ≡ some e → entries_of worker e.0 v.seen ≡ e.1) × ((w : ℕ) → v.made ≤ w → entries_of worker w v.seen ≡ []) × NamesOnce v.ended
  ends id v ws xs idle first none_out end =
      let s = end.0 in
      let at = end.1.1 in
      let one : weight v.stage ≡ 1 = ap weight idle in
      let r = running stands worker s end.1.0 id v at one in let f = r.f in
      let fit = subst (Agrees worker f s.homes id v) idle (r.each_seat id v at) in
      let p = fit.0 in
      let alone : live s.views ≡ 1 = r.all_out ∙ ap suc (sym (fit.1 first) ∙ none_out) in
      let q = r.known in
      let same : q.0 ≡ id = live-one s.views q.0 id q.1 v q.2 at q.3 one alone in
      let is : q.1 ≡ v = some-injective q.1 v (sym q.2 ∙ (ap (get_elem? s.views) same ∙ at)) in
      let all : v.seen ≡ f.log = ap (λ (y : V). y.seen) (sym is) ∙ q.4 in
      let home : AtHome stands worker f s.homes = ⊎_elim (λ (h : AtHome stands worker f s.homes). h)
      (λ (a : Away stands worker f s.homes s.views).
      let here : f.seat_of_ticket f.served ≡ id = live-one s.views (f.seat_of_ticket f.served) id a.1.0 v a.1.1 at (turn_lives stands worker a.1.0.stage a.1.2) one alone in
      absurd (no_turn stands worker s.views id (f.seat_of_ticket f.served) v a.1.0 at a.1.1 (ap turn_weight idle) a.1.2 here)) r.value in (
        home.0,
        end.4 0 (Some home.0) (ap (λ (hs : H). get_elem? hs 0) home.1),
        subst (λ (z : Option O × List E). StandsFrom stands z.0 home.0 z.1) (λ i. (sym p.origin i, sym all i)) home.2,
        (λ i e there. ap (entries_of worker e.0) all ∙ (r.each_ended i e (subst (λ (l : List (ℕ × List E)). get_elem? l i ≡ some e) (p.ended first) there)).1),
        (λ w le. ap (entries_of worker w) all ∙ r.named w (let m = p.made first in omega arith)),
        subst (λ (l : List (ℕ × List E)). NamesOnce l) (sym (p.ended first)) r.once,
      )

  -- The same, of what is taken from the slot.
  pub closes : (id : ℕ) (m m' : M) (ws : List ℕ) (xs : List (Option S)) (y : Option S) → m' ≡ m → m.0.stage ≡ Idle → m.0.worker ≡ 0 → m.0.out ≡ 0 → Final (Seen Rule id m'.0) ws xs → get_elem? xs 0 ≡ some y
      → (x : S) × (y ≡ Some x) × StandsFrom stands m.0.origin x m.0.seen × ((k : ℕ) (e : ℕ × List E) → get_elem? m.0.ended k ≡ some e → entries_of worker e.0 m.0.seen ≡ e.1) × ((w : ℕ) → m.0.made ≤ w → entries_of worker w m.0.seen ≡ []) × NamesOnce m.0.ended
  closes id m m' ws xs y same idle first none_out end there =
      let t = ends id m.0 ws xs idle first none_out (subst (λ (n : M). Final (Seen Rule id n.0) ws xs) same end) in
      (t.0, sym (some-injective (Some t.0) y (sym t.1 ∙ there)), t.2, t.3, t.4, t.5)
