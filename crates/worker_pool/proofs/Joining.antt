-- From jobs that are hired to worker 0's seat once it has taken in the others.
use Rattle.std.proofs.Common.{◌≡◌, ℕ, suc, ◌+◌, ◌-◌, ◌<◌, List, [], ◌∷◌, ◌++◌, length, get_or, refl, sym, ◌∙◌, ap, subst, arith, append_assoc, length-append, Option, Some}
use Rattle.std.proofs.lemmas.List.{append-nil}
use mathlib.Core.List.{IsPrefix}
use mathlib.Core.Logic.{dite}
use mathlib.Core.Option.{some}
use native.Mathlib.Decide.{ℕ_discrete}
use lib.ListN.{get_elem?}
use Rattle.atomic_table.proofs.Lists.{at_last, at_longer}
use Rattle.atomic_table.specs.Seated.{TableId}
use Rattle.door_worker.proofs.Going.{worker_is}
use Rattle.door_worker.specs.Answers.{Goes}
use Rattle.door_worker.specs.Languages.{Language}
use Rattle.exchange_shared.specs.Seats.{MayCall, Seat, worker_of}
use Rattle.exchange_state.specs.declared.entries.Entry.{Entry}
use Rattle.exchange_state.specs.declared.entries.Origin.{Origin}
use Rattle.exchange_state.specs.Views.{own}
use Rattle.hist_lock.specs.Views.{TakesIn}
use Rattle.link_door.specs.Doors.{Held}
use Rattle.link_door.specs.declared.link.Link.{Ghosts}
use Rattle.plain_exchange.specs.History.{Call}
use Rattle.worker_pool.proofs.Places.{get_same, some_same}
use Rattle.worker_pool.specs.Hiring.{AreBack, AreDone, AreHired, CountsOthers, Follows, IsDone, IsHired, IsJoined, Job}

-- ---- the seats are back

counts_on : (n : ℕ) (c : List Call) (i : ℕ) (s t : Seat) → Goes c i s t → CountsOthers n s → CountsOthers n t
counts_on n c i s t g k = subst (CountsOthers n) (sym g.same) (record { made = k.made; out = k.out; ended = k.ended })

module _ {G L : Type 0} (K : Ghosts L) (held_of : G → Option (Held L)) (faults_of : G → ℕ) (language : Language) (here : TableId) where
  pub had_is : (o : Origin) (w : ℕ) (a b : Job G) (h : IsHired here o w a) (e : IsDone K held_of faults_of language here a b) → e.before ≡ h.seat
  had_is o w a b h e = some_same a.0 e.before h.seat e.had h.has

  pub all_back : (o : Origin) (old new : List (Job G)) → AreHired here o old → AreDone K held_of faults_of language here old new → AreBack here new
  all_back o old new h e =
      let many : length new ≡ length old = e.many in
      let some_old : 0 < length old = h.some in
      record {
        some = omega (arith, many, some_old);
        each = λ k d lt.
            let here_too : k < length old = omega (arith, many, lt) in
            let a = h.each k d here_too in
            let b = e.each k d here_too in
            record {
              seat = b.after;
              has = b.has;
              may = b.may;
              worker = worker_is _ _ b.before b.after b.served.answers.goes ∙ ap (λ (s : Seat). s.worker) (had_is o k _ _ a b) ∙ a.fresh.worker;
            };
        first = λ s d is.
            let b = e.each 0 d some_old in
            let same : b.after ≡ s = some_same (get_or new 0 d).0 b.after s b.has is in
            subst (λ (n : ℕ). CountsOthers (n - 1) s) (sym many) (subst (CountsOthers (length old - 1)) same (counts_on (length old - 1) _ _ b.before b.after b.served.answers.goes (h.first b.before d b.had)));
      }

-- ---- one after the other is joined

prefix_then : (a b c : List Entry) → IsPrefix a b → IsPrefix b c → IsPrefix a c
prefix_then a b c p q = (p.0 ++ q.0, sym (append_assoc a p.0 q.0) ∙ ap (λ (l : List Entry). l ++ q.0) p.1 ∙ q.1)

pub joins_first : {G : Type 0} (here : TableId) (jobs : List (Job G)) (b : Seat) (d : Job G) → AreBack here jobs → (get_or jobs 0 d).0 ≡ Some b → IsJoined here jobs 1 b
joins_first {G} here jobs b d all is =
    let many : 0 < length jobs = all.some in
    let a = all.each 0 d many in
    let same : a.seat ≡ b = some_same (get_or jobs 0 d).0 a.seat b a.has is in
    let counts = all.first b d is in
    let made : b.made ≡ suc (length jobs - 1) = counts.made in
    let only : (c : Seat) (e : Job G) → (get_or jobs 0 e).0 ≡ Some c → b ≡ c = λ c e has. some_same (get_or jobs 0 d).0 b c is (ap (λ (j : Job G). j.0) (get_same jobs 0 d e many) ∙ has) in
    record {
      may = subst (MayCall here) same a.may;
      worker = ap (λ (s : Seat). s.worker) (sym same) ∙ a.worker;
      made = omega (arith, made, many);
      still_out = counts.out;
      many = ap length counts.ended;
      fronts = λ k c e lt has.
          let first : k ≡ 0 = omega (arith, lt) in
          let as_b : b ≡ c = only c e (ap (λ (n : ℕ). (get_or jobs n e).0) (sym first) ∙ has) in
          subst (λ (s : Seat). Follows s b) as_b (record { begins = ([], append-nil b.seen); origin = refl });
      ended = λ k c e some_k lt has. absurd (omega (arith, some_k, lt));
      first = λ c e has. ap (λ (s : Seat). own 0 s.seen) (only c e has);
    }

pub joins_one : {G : Type 0} (here : TableId) (jobs : List (Job G)) (i : ℕ) (s b t : Seat) (d : Job G) → IsJoined here jobs i s → 0 < i → i < length jobs → (get_or jobs i d).0 ≡ Some b → b.worker ≡ i → TakesIn worker_of s b t → MayCall here t
    → IsJoined here jobs (i + 1) t
joins_one {G} here jobs i s b t d j some_i lt is number take may =
    let was_out : s.out ≡ length jobs - i = j.still_out in
    let one_less : s.out ≡ suc t.out = take.out in
    let so_many : length s.ended ≡ i - 1 = j.many in
    let only : (c : Seat) (e : Job G) → (get_or jobs i e).0 ≡ Some c → b ≡ c = λ c e has. some_same (get_or jobs i d).0 b c is (ap (λ (x : Job G). x.0) (get_same jobs i d e lt) ∙ has) in
    let last : ℕ × List Entry = (b.worker, own b.worker b.seen) in
    let last_is : (n : ℕ) → n ≡ i → get_elem? t.ended (n - 1) ≡ some (n, own n b.seen) =
    λ n e. ap (λ (l : List (ℕ × List Entry)). get_elem? l (n - 1)) take.ended ∙ at_last s.ended last (n - 1) (omega (arith, so_many, e))
    ∙ (λ x. some ((number ∙ sym e) x, own ((number ∙ sym e) x) b.seen)) in
    record {
      may = may;
      worker = take.number ∙ j.worker;
      made = take.made ∙ j.made;
      still_out = omega (arith, was_out, one_less, lt);
      many = ap length take.ended ∙ length-append s.ended (last ∷ []) ∙ (omega (arith, so_many, some_i));
      fronts = λ k c e below has. dite (ℕ_discrete k i)
          (λ at. subst (λ (x : Seat). Follows x t) (only c e (ap (λ (n : ℕ). (get_or jobs n e).0) (sym at) ∙ has)) (record { begins = take.other_begins; origin = take.origin ∙ sym take.other_origin }))
          (λ other. let f = j.fronts k c e (omega (arith, below, other)) has in record { begins = prefix_then c.seen s.seen t.seen f.begins take.begins; origin = take.origin ∙ f.origin });
      ended = λ k c e some_k below has. dite (ℕ_discrete k i)
          (λ at. subst (λ (x : Seat). get_elem? t.ended (k - 1) ≡ some (k, own k x.seen)) (only c e (ap (λ (n : ℕ). (get_or jobs n e).0) (sym at) ∙ has)) (last_is k at))
          (λ other. ap (λ (l : List (ℕ × List Entry)). get_elem? l (k - 1)) take.ended ∙ at_longer s.ended (last ∷ []) (k - 1) _ (j.ended k c e some_k (omega (arith, below, other)) has));
      first = λ c e has. subst (λ (w : ℕ). own w t.seen ≡ own w s.seen) j.worker take.own ∙ j.first c e has;
    }

-- ---- a seat that is taken out of its job

pub taken_is : {G : Type 0} (jobs now : List (Job G)) (k : ℕ) (d : Job G) (o : Option Seat) (s : Seat) → get_or now k d ≡ get_or jobs k d → o ≡ (get_or now k d).0 → o ≡ Some s → (get_or jobs k d).0 ≡ Some s
taken_is {G} jobs now k d o s stay value is = ap (λ (j : Job G). j.0) (sym stay) ∙ sym value ∙ is

pub is_back : {G : Type 0} (here : TableId) (jobs : List (Job G)) (k : ℕ) (d : Job G) (s : Seat) → AreBack here jobs → k < length jobs → (get_or jobs k d).0 ≡ Some s → MayCall here s × (s.worker ≡ k)
is_back {G} here jobs k d s all lt has =
    let b = all.each k d lt in
    let same : b.seat ≡ s = some_same (get_or jobs k d).0 b.seat s b.has has in
    (subst (MayCall here) same b.may, ap (λ (x : Seat). x.worker) (sym same) ∙ b.worker)
