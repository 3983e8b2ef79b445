-- Seats for jobs are split off.
use Rattle.std.proofs.Common.{◌≡◌, ℕ, suc, ◌+◌, ◌-◌, ◌<◌, List, [], ◌∷◌, ◌++◌, length, get_or, map, reverse, set, refl, sym, ◌∙◌, ap, subst, arith, append_assoc, length-append, length-set, get_or-set_other, None, Some}
use Rattle.std.proofs.lemmas.List.{map-append, reverse-append}
use mathlib.Core.Logic.{dite}
use native.Mathlib.Decide.{ℕ_discrete}
use Rattle.atomic_table.specs.Seated.{TableId}
use Rattle.exchange_shared.specs.Seats.{MayCall, Seat, worker_of}
use Rattle.exchange_state.specs.declared.entries.Origin.{Origin}
use Rattle.hist_lock.specs.Views.{SplitsOff, first_seat}
use Rattle.worker_pool.proofs.Places.{get_front, get_last, get_set, some_same}
use Rattle.worker_pool.specs.Hiring.{AreHired, AreHiring, CountsOthers, IsFresh, IsHired, Job}

pub hiring_none : {G : Type 0} (here : TableId) (o : Origin) (j : Job G) (s : Seat) → j.0 ≡ None → IsFresh here o 0 s → CountsOthers 0 s → AreHiring here o (j ∷ []) s
hiring_none {G} here o j s none fresh counts = record {
  some = omega arith;
  none = λ d. none;
  others = λ k d some lt. absurd (omega (arith, some, lt));
  fresh = fresh;
  counts = counts;
}

pub hiring_one : {G : Type 0} (here : TableId) (o : Origin) (jobs : List (Job G)) (j : Job G) (s t n : Seat) → AreHiring here o jobs s → SplitsOff worker_of s t n → MayCall here t × MayCall here n → j.0 ≡ Some n → AreHiring here o (jobs ++ j ∷ []) t
hiring_one {G} here o jobs j s t n h split may is =
    let longer : length (jobs ++ j ∷ []) ≡ length jobs + 1 = length-append jobs (j ∷ []) in
    let some : 0 < length jobs = h.some in
    let made : s.made ≡ suc (length jobs - 1) = h.counts.made in
    let out : s.out ≡ length jobs - 1 = h.counts.out in
    let made_t : t.made ≡ suc s.made = ap (λ (x : Seat). x.made) split.0 in
    let out_t : t.out ≡ suc s.out = ap (λ (x : Seat). x.out) split.0 in
    let worker_n : n.worker ≡ s.made = ap (λ (x : Seat). x.worker) split.1 in
    let new : IsHired here o (length jobs) j = record {
      seat = n;
      has = is;
      fresh = record {
        may = may.1;
        origin = ap (λ (x : Seat). x.origin) split.1 ∙ h.fresh.origin;
        worker = omega (arith, made, worker_n, some);
        seen = ap (λ (x : Seat). x.seen) split.1 ∙ h.fresh.seen;
      };
    } in
    record {
      some = omega (arith, longer);
      none = λ d. ap (λ (x : Job G). x.0) (get_front jobs (j ∷ []) 0 d some) ∙ h.none d;
      others = λ k d some_k lt. dite (ℕ_discrete k (length jobs))
          (λ at. subst (λ (x : Job G). IsHired here o k x) (sym (get_last jobs j d k at)) (subst (λ (m : ℕ). IsHired here o m j) (sym at) new))
          (λ other. let below : k < length jobs = omega (arith, lt, longer, other) in
          subst (λ (x : Job G). IsHired here o k x) (sym (get_front jobs (j ∷ []) k d below)) (h.others k d some_k below));
      fresh = record {
        may = may.0;
        origin = ap (λ (x : Seat). x.origin) split.0 ∙ h.fresh.origin;
        worker = ap (λ (x : Seat). x.worker) split.0 ∙ h.fresh.worker;
        seen = ap (λ (x : Seat). x.seen) split.0 ∙ h.fresh.seen;
      };
      counts = record {
        made = omega (arith, made, made_t, longer, some);
        out = omega (arith, out, out_t, longer, some);
        ended = ap (λ (x : Seat). x.ended) split.0 ∙ h.counts.ended;
      };
    }

pub hired_all : {G : Type 0} (here : TableId) (o : Origin) (jobs : List (Job G)) (j : Job G) (s : Seat) → AreHiring here o jobs s → j.0 ≡ Some s → AreHired here o (set jobs 0 j)
hired_all {G} here o jobs j s h is =
    let many : length (set jobs 0 j) ≡ length jobs = length-set jobs 0 j in
    let some : 0 < length jobs = h.some in
    let first_is : (d : Job G) → get_or (set jobs 0 j) 0 d ≡ j = λ d. get_set jobs 0 j d some in
    record {
      some = omega (arith, many, some);
      each = λ k d lt. dite (ℕ_discrete k 0)
          (λ at. subst (λ (m : ℕ). IsHired here o m (get_or (set jobs 0 j) m d)) (sym at) (subst (λ (x : Job G). IsHired here o 0 x) (sym (first_is d)) (record { seat = s; has = is; fresh = h.fresh })))
          (λ other. subst (λ (x : Job G). IsHired here o k x) (sym (get_or-set_other jobs 0 k j d (λ e. other (omega (arith, e))))) (h.others k d (omega (arith, other)) (omega (arith, lt, many))));
      first = λ t d has.
          let same : s ≡ t = some_same j.0 s t is (ap (λ (x : Job G). x.0) (sym (first_is d)) ∙ has) in
          subst (λ (m : ℕ). CountsOthers (m - 1) t) (sym many) (subst (CountsOthers (length jobs - 1)) same h.counts);
    }

-- worker 0's seat of a new exchange
pub first_fresh : (here : TableId) (s : Seat) → MayCall here s → s ≡ first_seat here s.origin → IsFresh here s.origin 0 s × CountsOthers 0 s
first_fresh here s may is = (
  record { may = may; origin = refl; worker = ap (λ (x : Seat). x.worker) is; seen = ap (λ (x : Seat). x.seen) is },
  record { made = ap (λ (x : Seat). x.made) is; out = ap (λ (x : Seat). x.out) is; ended = ap (λ (x : Seat). x.ended) is },
)

-- a door goes from the end of the list of those that wait to the end of those that have jobs
pub next_door : {X Y : Type 0} (f : X → Y) (jobs : List X) (j : X) (doors rest all : List Y) → map f jobs ++ reverse doors ≡ all → doors ≡ rest ++ f j ∷ [] → map f (jobs ++ j ∷ []) ++ reverse rest ≡ all
next_door f jobs j doors rest all e is =
    ap (λ (l : List _). l ++ reverse rest) (map-append f jobs (j ∷ [])) ∙ append_assoc (map f jobs) (f j ∷ []) (reverse rest) ∙ ap (λ (l : List _). map f jobs ++ l) (sym (reverse-append rest (f j ∷ [])) ∙ ap reverse (sym is)) ∙ e
