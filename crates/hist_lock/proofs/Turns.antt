-- The steps of a turn keep the rule: draw, look and take out, commit, put back and pass on.
use Rattle.std.proofs.Common.{◌≡◌, ◌≢◌, ℕ, suc, ◌+◌, ◌%◌, ◌<◌, ◌≤◌, eqb, List, [], ◌∷◌, ◌++◌, length, get_or, set, refl, sym, ap, ◌∙◌, subst, ⊎_elim, inl, inr, arith, length-append, mod-eq_of_lt}
use Rattle.std.proofs.lemmas.List.{append-nil}
use Rattle.std.specs.Prelude.{Option, Some}
use mathlib.Core.Logic.{dite}
use mathlib.Core.Option.{some, none, some-injective}
use mathlib.Core.Option as maybe
use native.Mathlib.Decide.{ℕ_discrete}
use lib.ListN.{get_elem?}
use lib.Seq.{set-get_or}
use prog.Atomic.{either}
use Rattle.atomic_table.specs.Table.{State, Me, step, Act, keeps, takes, gives, Valid, stepped, carried_after, Allows}
use Rattle.atomic_table.proofs.Lists.{exchanged}
use Rattle.hist_lock.specs.declared.view.View.{View}
use Rattle.hist_lock.specs.declared.view.Stage.{Stage}
use Rattle.hist_lock.specs.declared.view.Stage.TheVariants.{Fresh, Filling, Idle, Waiting, Holding, Committed, Joining, Spent}
use Rattle.hist_lock.specs.Entries.{entries_of, KnowsOwn}
use Rattle.hist_lock.specs.Rule.{StandsFrom, weight, turn_weight, Auxiliary, Placed, Out, Agrees, AtHome, Away, Running, LockRule}
use Rattle.hist_lock.specs.Steps.{staged, waiting, seeing, drawing, looking, committing, passing}
use Rattle.hist_lock.proofs.Logs.{entries_of-append, entries_of-other, entries_of-snoc, knows-self, knows-add, prefix-snoc, set_at}
use Rattle.hist_lock.proofs.Moves.{put, put_here, put_else, next, running, stays, placed, has, apart, moved, still_known, still_away}

module _ {S O E : Type 0} (stands : O → S → List E → Type 0) (worker : E → ℕ) where
  abbrev V : Type 0
  V = View O E

  abbrev St : Type 0
  St = State (Option S) V

  abbrev H : Type 0
  H = List (maybe.Option (Option S))

  abbrev M : Type 0
  M = Me (Option S) V

  abbrev F : Type 0
  F = Auxiliary O E

  abbrev Run : St → Type 0
  Run = Running stands worker

  abbrev Rule : St → Type 0
  Rule = LockRule stands worker

  -- A draw.
  draws_others : (f : F) (homes : H) (id new : ℕ) (j : ℕ) (u : V) (st : Stage) → f.drawn < new → j ≢ id → Agrees worker f homes j u st
      → Agrees worker (next f f.log new f.served (put f.seat_of_ticket f.drawn id)) homes j u st
  draws_others f homes id new j u Fresh up other fit = absurd fit
  draws_others f homes id new j u Filling up other fit = absurd fit
  draws_others f homes id new j u Idle up other fit = (record { origin = fit.0.origin; number = fit.0.number; seat_of_worker = fit.0.seat_of_worker; knows = fit.0.knows; made = fit.0.made; ended = fit.0.ended }, fit.1)
  draws_others f homes id new j u Waiting up other fit = let q = fit.2 in let low : f.served ≤ u.ticket = q.0 in let high : u.ticket < f.drawn = q.1 in
      (record { origin = fit.0.origin; number = fit.0.number; seat_of_worker = fit.0.seat_of_worker; knows = fit.0.knows; made = fit.0.made; ended = fit.0.ended }, fit.1, (low, omega arith, put_else f.seat_of_ticket f.drawn id u.ticket (λ e. omega arith) ∙ q.2))
  draws_others f homes id new j u Holding up other fit = let q = fit.2 in let high : f.served < f.drawn = q.1 in
      (record { origin = fit.0.origin; number = fit.0.number; seat_of_worker = fit.0.seat_of_worker; knows = fit.0.knows; made = fit.0.made; ended = fit.0.ended }, fit.1, (q.0, omega arith, put_else f.seat_of_ticket f.drawn id f.served (λ e. omega arith) ∙ q.2, q.3, q.4, q.5))
  draws_others f homes id new j u Committed up other fit = let q = fit.2 in let high : f.served < f.drawn = q.1 in
      (record { origin = fit.0.origin; number = fit.0.number; seat_of_worker = fit.0.seat_of_worker; knows = fit.0.knows; made = fit.0.made; ended = fit.0.ended }, fit.1, (q.0, omega arith, put_else f.seat_of_ticket f.drawn id f.served (λ e. omega arith) ∙ q.2, q.3, q.4, q.5))
  draws_others f homes id new j u Joining up other fit = (record { origin = fit.0.origin; number = fit.0.number; seat_of_worker = fit.0.seat_of_worker; knows = fit.0.knows; made = fit.0.made; ended = fit.0.ended }, fit.1, fit.2, fit.3, record { origin = fit.4.origin; other = fit.4.other; number = fit.4.number })
  draws_others f homes id new j u Spent up other fit = tt

  pub draws : (slots id : ℕ) (me : M) (old new : ℕ) → new ≡ old + 1 → old < 4611686018427387904 → me.0.stage ≡ Idle
      → Allows Rule slots id me 1 (λ x. either (eqb x old) new x) (drawing (step slots 1 old new none) me)
  draws slots id me old new up small idle s k _ at _ =
      let r = running stands worker s k id me.0 at (ap weight idle) in let f = r.f in let x : ℕ = get_or s.words 1 0 in let is : x ≡ f.drawn = ap (λ ws. get_or ws 1 0) r.words in
      let w : V = waiting x me.0 in
      exchanged x old new (λ (y : ℕ). (w : V) × (a : Act (Option S)) × Valid s.homes me.1 a × Rule (stepped s 1 y id me.1 w a) × drawing (step slots 1 old new none) me x (w, carried_after me.1 a))
      (λ (hit : x ≡ old).
      let low : f.served ≤ f.drawn = r.behind in
      let fit = subst (Agrees worker f s.homes id me.0) idle (r.each_seat id me.0 at) in (
        w,
        keeps,
        tt,
        inr (moved stands worker s r id me.0 w f.log new f.served (put f.seat_of_ticket f.drawn id) (set s.words 1 new) s.homes at (ap weight idle) refl (ap (λ ws. set ws 1 new) r.words) (omega arith) (omega arith)
            (⊎_elim (λ (h : AtHome stands worker f s.homes). inl h)
            (λ (a : Away stands worker f s.homes s.views). let t = has stands worker f s.homes (f.seat_of_ticket f.served) a.1.0 a.1.0.stage a.1.2 (r.each_seat (f.seat_of_ticket f.served) a.1.0 a.1.1) in let b : f.served < f.drawn = t.before in
            inr (still_away stands worker f (next f f.log new f.served (put f.seat_of_ticket f.drawn id)) s.homes s.views id me.0 w at (ap turn_weight idle) a (put_else f.seat_of_ticket f.drawn id f.served (λ e. omega arith)))) r.value)
            (λ j u other fits. draws_others f s.homes id new j u u.stage (omega arith) other fits)
            (record { origin = fit.0.origin; number = fit.0.number; seat_of_worker = fit.0.seat_of_worker; knows = fit.0.knows; made = fit.0.made; ended = fit.0.ended }, fit.1, (omega arith, omega arith, put_here f.seat_of_ticket f.drawn id x is))
            (still_known stands worker s r id me.0 w at refl (λ e. e)) r.named (λ p d. d.1)),
        ((λ _. refl), λ miss. absurd (miss hit)),
      ))
      (λ miss. (me.0, keeps, tt, stays stands worker s k 1 id me at, ((λ hit. absurd (miss hit)), λ _. refl)))

  -- A look.
  looks_others : (f : F) (homes homes' : H) (id : ℕ) (j : ℕ) (u : V) (st : Stage) → f.seat_of_ticket f.served ≡ id → j ≢ id → Agrees worker f homes j u st → Agrees worker f homes' j u st
  looks_others f homes homes' id j u Fresh at_id other fit = absurd fit
  looks_others f homes homes' id j u Filling at_id other fit = absurd fit
  looks_others f homes homes' id j u Idle at_id other fit = fit
  looks_others f homes homes' id j u Waiting at_id other fit = fit
  looks_others f homes homes' id j u Holding at_id other fit = absurd (other (sym fit.2.2 ∙ at_id))
  looks_others f homes homes' id j u Committed at_id other fit = absurd (other (sym fit.2.2 ∙ at_id))
  looks_others f homes homes' id j u Joining at_id other fit = fit
  looks_others f homes homes' id j u Spent at_id other fit = tt

  pub looks : (slots id : ℕ) (me : M) → me.0.stage ≡ Waiting → Allows Rule slots id me 2 (λ x. x) (looking stands worker (step slots 2 0 0 none) me)
  looks slots id me st s k _ at _ =
      let r = running stands worker s k id me.0 at (ap weight st) in let f = r.f in let x : ℕ = get_or s.words 2 0 in let is : x ≡ f.served = ap (λ ws. get_or ws 2 0) r.words in
      let fit = subst (Agrees worker f s.homes id me.0) st (r.each_seat id me.0 at) in
      let rest : List E = fit.0.knows.0 in
      let w : V = seeing Holding (me.0.seen ++ rest) me.0 in
      let few : f.drawn ≤ 4611686018427387904 = r.few in
      let high : me.0.ticket < f.drawn = fit.2.1 in
      dite (ℕ_discrete x me.0.ticket)
      (λ (hit : x ≡ me.0.ticket).
      let own : f.seat_of_ticket f.served ≡ id = ap f.seat_of_ticket (sym is ∙ hit) ∙ fit.2.2 in
      ⊎_elim
      (λ (h : AtHome stands worker f s.homes).
      let v : S = h.0 in
      let short : length f.log ≤ f.served = h.3 in
      let long : length f.log ≡ length (me.0.seen ++ rest) = ap length fit.0.knows.1 in (
        w,
        takes 0 (Some v),
        ap (λ (hs : H). get_elem? hs 0) h.1,
        inr (moved stands worker s r id me.0 w f.log f.drawn f.served f.seat_of_ticket (set s.words 2 x) (set s.homes 0 none) at (ap weight st) refl (set-get_or s.words 2 0 ∙ r.words) r.few r.behind
            (inr (ap (λ (hs : H). set hs 0 none) h.1, (w, ap (get_elem? (set s.views id w)) own ∙ set_at s.views id me.0 w at, refl)))
            (λ j u other fits. looks_others f s.homes (set s.homes 0 none) id j u u.stage own other fits) (
              record { origin = fit.0.origin; number = fit.0.number; seat_of_worker = fit.0.seat_of_worker; knows = subst (λ (l : List E). KnowsOwn worker me.0.worker l f.log) fit.0.knows.1 (knows-self worker me.0.worker f.log); made = fit.0.made; ended = fit.0.ended },
              fit.1,
              (sym hit ∙ is, omega arith, own, sym fit.0.knows.1, ap (λ (hs : H). set hs 0 none) h.1, omega arith),
            )
            (id, w, set_at s.views id me.0 w at, refl, sym fit.0.knows.1) r.named (λ p d. d.1)),
        (
          (λ _. (
            rest,
            v,
            refl,
            fit.0.knows.2,
            subst (λ (o : Option O). StandsFrom stands o v (me.0.seen ++ rest)) (sym fit.0.origin) (subst (λ (l : List E). stands f.origin v l) fit.0.knows.1 h.2),
            omega arith,
          )),
          λ miss. absurd (miss hit),
        ),
      ))
      (λ (a : Away stands worker f s.homes s.views).
      let e : a.1.0 ≡ me.0 = some-injective a.1.0 me.0 (sym a.1.1 ∙ (ap (get_elem? s.views) own ∙ at)) in
      let z : turn_weight me.0.stage ≡ 1 = ap (λ (u : V). turn_weight u.stage) (sym e) ∙ a.1.2 in
      let y : turn_weight me.0.stage ≡ 0 = ap turn_weight st in absurd (omega arith))
      r.value)
      (λ miss. (me.0, keeps, tt, stays stands worker s k 2 id me at, ((λ hit. absurd (miss hit)), λ _. refl)))

  -- A commit.
  commits_placed : (f : F) (e : E) (id j : ℕ) (u v : V) → j ≢ id → f.seat_of_worker v.worker ≡ id → worker e ≡ v.worker → Placed worker f j u → Placed worker (next f (f.log ++ e ∷ []) f.drawn f.served f.seat_of_ticket) j u
  commits_placed f e id j u v other at_id names p = record {
    origin = p.origin;
    number = p.number;
    seat_of_worker = p.seat_of_worker;
    knows = knows-add worker u.worker u.seen f.log e p.knows (λ same. other (sym p.seat_of_worker ∙ (ap f.seat_of_worker (sym same ∙ names) ∙ at_id)));
    made = p.made;
    ended = p.ended;
  }

  commits_others : (f : F) (homes : H) (e : E) (id j : ℕ) (u v : V) (st : Stage) → j ≢ id → f.seat_of_worker v.worker ≡ id → worker e ≡ v.worker → f.seat_of_ticket f.served ≡ id → Agrees worker f homes j u st
      → Agrees worker (next f (f.log ++ e ∷ []) f.drawn f.served f.seat_of_ticket) homes j u st
  commits_others f homes e id j u v Fresh other at_id names own fit = absurd fit
  commits_others f homes e id j u v Filling other at_id names own fit = absurd fit
  commits_others f homes e id j u v Idle other at_id names own fit = (commits_placed f e id j u v other at_id names fit.0, fit.1)
  commits_others f homes e id j u v Waiting other at_id names own fit = (commits_placed f e id j u v other at_id names fit.0, fit.1, fit.2)
  commits_others f homes e id j u v Holding other at_id names own fit = absurd (other (sym fit.2.2 ∙ own))
  commits_others f homes e id j u v Committed other at_id names own fit = absurd (other (sym fit.2.2 ∙ own))
  commits_others f homes e id j u v Joining other at_id names own fit = (commits_placed f e id j u v other at_id names fit.0, fit.1, prefix-snoc u.shorter_seen f.log e fit.2, knows-add worker u.worker u.seen_before f.log e fit.3 (λ same. other (sym fit.0.seat_of_worker ∙ (ap f.seat_of_worker (sym same ∙ names) ∙ at_id))), record { origin = fit.4.origin; other = fit.4.other; number = fit.4.number })
  commits_others f homes e id j u v Spent other at_id names own fit = tt

  pub commits : (slots id : ℕ) (me : M) (e : E) → me.0.stage ≡ Holding → worker e ≡ me.0.worker → Allows Rule slots id me 0 (λ x. (x + 1) % 18446744073709551616) (committing e (step slots 0 1 0 none) me)
  commits slots id me e st names s k _ at _ =
      let r = running stands worker s k id me.0 at (ap weight st) in let f = r.f in let x : ℕ = get_or s.words 0 0 in let is : x ≡ length f.log = ap (λ ws. get_or ws 0 0) r.words in
      let fit = subst (Agrees worker f s.homes id me.0) st (r.each_seat id me.0 at) in
      let p = fit.0 in let t = fit.2 in
      let log : List E = f.log ++ e ∷ [] in
      let w : V = seeing Committed (me.0.seen ++ e ∷ []) me.0 in
      let f' : F = next f log f.drawn f.served f.seat_of_ticket in
      let few : f.drawn ≤ 4611686018427387904 = r.few in
      let before : f.served < f.drawn = t.1 in
      let short : length f.log ≤ f.served + 0 = t.5 in
      let one_more : length log ≡ length f.log + 1 = length-append f.log (e ∷ []) in
      let n : (x + 1) % 18446744073709551616 ≡ length log = mod-eq_of_lt (omega arith) ∙ (omega arith) in
      let all : me.0.seen ++ e ∷ [] ≡ log = ap (λ l. l ++ e ∷ []) t.3 in
      let away : Away stands worker f' s.homes (set s.views id w) = (t.4, (w, ap (get_elem? (set s.views id w)) t.2 ∙ set_at s.views id me.0 w at, refl)) in
      let own : Agrees worker f' s.homes id w Committed = (
        record { origin = p.origin; number = p.number; seat_of_worker = p.seat_of_worker; knows = subst (λ (l : List E). KnowsOwn worker me.0.worker l log) (sym all) (knows-self worker me.0.worker log); made = p.made; ended = p.ended },
        fit.1,
        (t.0, t.1, t.2, all, t.4, omega arith),
      ) in (
        w,
        keeps,
        tt,
        inr (moved stands worker s r id me.0 w log f.drawn f.served f.seat_of_ticket (set s.words 0 ((x + 1) % 18446744073709551616)) s.homes at (ap weight st) refl
            (ap (λ ws. set ws 0 ((x + 1) % 18446744073709551616)) r.words ∙ ap (λ (y : ℕ). y ∷ f.drawn ∷ f.served ∷ []) n) r.few r.behind (inr away)
            (λ j u other fits. commits_others f s.homes e id j u me.0 u.stage other p.seat_of_worker names t.2 fits) own (id, w, set_at s.views id me.0 w at, refl, all)
            (λ y le. let low : me.0.worker < f.made = p.number in entries_of-snoc worker y f.log e (r.named y le) (λ same. let is' : worker e ≡ me.0.worker = names in omega arith))
            (λ q d. entries_of-append worker q.0 f.log (e ∷ []) ∙ (ap (λ l. entries_of worker q.0 f.log ++ l) (entries_of-other worker q.0 e (λ same.
            apart stands worker s.views id (f.seat_of_worker q.0) me.0 d.2.0 at d.2.1 (ap weight st) d.2.2 (ap f.seat_of_worker (sym same ∙ names) ∙ p.seat_of_worker))) ∙ (append-nil (entries_of worker q.0 f.log) ∙ d.1)))),
        refl,
      )

  -- A pass.
  passes_others : (f : F) (homes homes' : H) (id j : ℕ) (u : V) (st : Stage) → j ≢ id → f.seat_of_ticket f.served ≡ id → Agrees worker f homes j u st → Agrees worker (next f f.log f.drawn (f.served + 1) f.seat_of_ticket) homes' j u st
  passes_others f homes homes' id j u Fresh other own fit = absurd fit
  passes_others f homes homes' id j u Filling other own fit = absurd fit
  passes_others f homes homes' id j u Idle other own fit = (record { origin = fit.0.origin; number = fit.0.number; seat_of_worker = fit.0.seat_of_worker; knows = fit.0.knows; made = fit.0.made; ended = fit.0.ended }, fit.1)
  passes_others f homes homes' id j u Waiting other own fit = let q = fit.2 in let low : f.served ≤ u.ticket = q.0 in
      let ne : u.ticket ≢ f.served = λ e. other (sym q.2 ∙ (ap f.seat_of_ticket e ∙ own)) in
      (record { origin = fit.0.origin; number = fit.0.number; seat_of_worker = fit.0.seat_of_worker; knows = fit.0.knows; made = fit.0.made; ended = fit.0.ended }, fit.1, (omega arith, q.1, q.2))
  passes_others f homes homes' id j u Holding other own fit = absurd (other (sym fit.2.2 ∙ own))
  passes_others f homes homes' id j u Committed other own fit = absurd (other (sym fit.2.2 ∙ own))
  passes_others f homes homes' id j u Joining other own fit = (record { origin = fit.0.origin; number = fit.0.number; seat_of_worker = fit.0.seat_of_worker; knows = fit.0.knows; made = fit.0.made; ended = fit.0.ended }, fit.1, fit.2, fit.3, record { origin = fit.4.origin; other = fit.4.other; number = fit.4.number })
  passes_others f homes homes' id j u Spent other own fit = tt

  out_of : (f : F) (homes : H) (i : ℕ) (v : V) (st : Stage) → turn_weight st ≡ 1 → Agrees worker f homes i v st → Out worker f i v
  out_of f homes i v Fresh one fit = absurd fit
  out_of f homes i v Filling one fit = absurd fit
  out_of f homes i v Idle one fit = fit.1
  out_of f homes i v Waiting one fit = fit.1
  out_of f homes i v Holding one fit = fit.1
  out_of f homes i v Committed one fit = fit.1
  out_of f homes i v Joining one fit = absurd (omega arith)
  out_of f homes i v Spent one fit = absurd (omega arith)

  pub turn_lives : (st : Stage) → turn_weight st ≡ 1 → weight st ≡ 1
  turn_lives Fresh one = absurd (omega arith)
  turn_lives Filling one = absurd (omega arith)
  turn_lives Idle one = refl
  turn_lives Waiting one = refl
  turn_lives Holding one = refl
  turn_lives Committed one = refl
  turn_lives Joining one = refl
  turn_lives Spent one = absurd (omega arith)

  pub meant : (o : Option O) (a : O) (x : S) (h l : List E) → o ≡ Some a → h ≡ l → StandsFrom stands o x h → stands a x l
  meant o a x h l is same m = subst (λ (z : List E). stands a x z) same (subst (λ (z : Option O). StandsFrom stands z x h) is m)

  passes_with : (slots id : ℕ) (v : V) (x : S) → turn_weight v.stage ≡ 1 → StandsFrom stands v.origin x v.seen
      → Allows Rule slots id (v, (0, Some x) ∷ []) 2 (λ y. (y + 1) % 18446744073709551616) (passing (step slots 2 1 0 none) (v, (0, Some x) ∷ []))
  passes_with slots id v x turn means s k _ at _ =
      let live' : weight v.stage ≡ 1 = turn_lives v.stage turn in
      let r = running stands worker s k id v at live' in let f = r.f in let y : ℕ = get_or s.words 2 0 in let is : y ≡ f.served = ap (λ ws. get_or ws 2 0) r.words in
      let fits = r.each_seat id v at in
      let t = has stands worker f s.homes id v v.stage turn fits in
      let p = placed stands worker f s.homes id v v.stage live' fits in
      let w : V = staged Idle v in
      let few : f.drawn ≤ 4611686018427387904 = r.few in
      let before : f.served < f.drawn = t.before in
      let short : length f.log ≤ suc f.served = t.short in
      let n : (y + 1) % 18446744073709551616 ≡ f.served + 1 = mod-eq_of_lt (omega arith) ∙ (omega arith) in
      let homes' : H = set s.homes 0 (some (Some x)) in
      let f' : F = next f f.log f.drawn (f.served + 1) f.seat_of_ticket in
      let home : AtHome stands worker f' homes' = (x, ap (λ (hs : H). set hs 0 (some (Some x))) t.out, meant v.origin f.origin x v.seen f.log p.origin t.seen means, omega arith) in (
        w,
        gives,
        tt,
        inr (moved stands worker s r id v w f.log f.drawn (f.served + 1) f.seat_of_ticket (set s.words 2 ((y + 1) % 18446744073709551616)) homes' at live' refl
            (ap (λ ws. set ws 2 ((y + 1) % 18446744073709551616)) r.words ∙ ap (λ (z : ℕ). length f.log ∷ f.drawn ∷ z ∷ []) n) r.few (omega arith) (inl home)
            (λ j u other fits'. passes_others f s.homes homes' id j u u.stage other t.seat_of_ticket fits')
            (record { origin = p.origin; number = p.number; seat_of_worker = p.seat_of_worker; knows = p.knows; made = p.made; ended = p.ended }, out_of f s.homes id v v.stage turn fits)
            (id, w, set_at s.views id v w at, refl, t.seen) r.named (λ q d. d.1)),
        refl,
      )

  pub passes : (slots id : ℕ) (me : M) (v : V) (x : S) → me ≡ (v, (0, Some x) ∷ []) → turn_weight v.stage ≡ 1 → StandsFrom stands v.origin x v.seen
      → Allows Rule slots id me 2 (λ y. (y + 1) % 18446744073709551616) (passing (step slots 2 1 0 none) me)
  passes slots id me v x is turn means = subst (λ (m : M). Allows Rule slots id m 2 (λ y. (y + 1) % 18446744073709551616) (passing (step slots 2 1 0 none) m)) (sym is) (passes_with slots id v x turn means)
