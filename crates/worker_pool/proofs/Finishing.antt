-- How the serving of doors ends.
use Rattle.std.proofs.Common.{◌≡◌, ℕ, suc, ◌+◌, ◌<◌, ◌||◌, Bool, true, false, List, [], ◌∷◌, get_or, length, map, refl, sym, ◌∙◌, ap, subst, arith, Option, None, Some}
use Rattle.std.specs.Prelude.{MatchBool}
use Rattle.std.proofs.lemmas.List.{append-nil}
use Rattle.atomic_table.specs.Seated.{TableId}
use Rattle.door_worker.specs.Doors.{AreHeld, LeavesNone}
use Rattle.door_worker.specs.Languages.{Language}
use Rattle.door_worker.specs.declared.door.DoorEnd.{DoorEnd}
use Rattle.door_worker.specs.declared.door.DoorEnd.TheVariants as door
use Rattle.exchange_shared.specs.Seats.{Seat, effects_in, worker_of}
use Rattle.exchange_state.specs.declared.entries.Entry.{Entry}
use Rattle.exchange_state.specs.Views.{calls, faults_told, mine, stable}
use Rattle.hist_lock.specs.Views.{Complete}
use Rattle.link_door.specs.Doors.{Held}
use Rattle.link_door.specs.declared.link.Link.{Ghosts}
use Rattle.rtb_base.specs.Faults.{Rose}
use Rattle.worker_pool.proofs.Closing.{all_of, no_behind}
use Rattle.worker_pool.specs.Ending.{IsWritten, end_of}
use Rattle.worker_pool.specs.Hiring.{AreBack, AreDone, IsDone, IsJoined, Job, has_failed, is_failed}
use Rattle.worker_pool.specs.Pools.{AreServed, AreServedFrom, EndsAs, History, LeaveAs, LeaveNone, LeaveNoneUnlessRose, SomeRose}
use Rattle.worker_pool.specs.declared.pool.PoolEnd.{PoolEnd}

-- ---- nothing was served

nothing_held : {L : Type 0} (K : Ghosts L) (language : Language) (held : Option (Held L)) → AreHeld K language [] held held
nothing_held K language None = tt
nothing_held K language (Some h) = (h, refl, record { given = []; back = []; left = refl; came_back = sym (append-nil h.served); talks = refl; moments = refl })

module _ {L : Type 0} (K : Ghosts L) (language : Language) (past : History) (none : past.seen ≡ []) where
  idle_from : (w : ℕ) (helds : List (Option (Held L))) → AreServedFrom K language past w (map (λ (h : Option (Held L)). []) helds) helds helds
  idle_from w [] = tt
  idle_from w (held ∷ helds) = (
    record {
      right = λ k d lt. absurd (omega (arith, lt));
      calls_are = ap (λ (l : List Entry). mine w (calls l)) none;
      failures_are = omega arith;
      durable = tt;
      published = tt;
      door = nothing_held K language held;
    },
    idle_from (w + 1) helds,
  )

  pub idle : (helds : List (Option (Held L))) → AreServed K language past helds helds
  idle helds = all_of K language past (map (λ (h : Option (Held L)). []) helds) helds helds (idle_from 0 helds) (λ w le. ap (λ (l : List Entry). mine w (calls l)) none)

-- ---- doors that failed

module _ {G L : Type 0} (K : Ghosts L) (held_of : G → Option (Held L)) (faults_of : G → ℕ) (language : Language) (here : TableId) where
  abbrev Done : Job G → Job G → Type 0
  Done a b = IsDone K held_of faults_of language here a b

  abbrev EachDone : List (Job G) → List (Job G) → Type 0
  EachDone old new = (length new ≡ length old) × ((k : ℕ) (d : Job G) → k < length old → Done (get_or old k d) (get_or new k d))

  first_done : (x y : Job G) (old new : List (Job G)) → EachDone (x ∷ old) (y ∷ new) → Done x y
  first_done x y old new e = e.1 0 x (omega arith)

  others_done : (x y : Job G) (old new : List (Job G)) → EachDone (x ∷ old) (y ∷ new) → EachDone old new
  others_done x y old new e = let many = e.0 in (omega (arith, many), λ k d lt. e.1 (suc k) d (omega (arith, lt)))

  doors : List (Job G) → List G
  doors jobs = map (λ (j : Job G). j.1) jobs

  end_cases : (e : DoorEnd) (b : Bool) → is_failed e ≡ b → MatchBool b (e ≡ door.Failed) (e ≡ door.Served)
  end_cases door.Failed true is = refl
  end_cases door.Failed false is = absurd (cc is)
  end_cases door.Served true is = absurd (cc is)
  end_cases door.Served false is = refl

  some_rose : (old new : List (Job G)) → EachDone old new → has_failed new ≡ true → SomeRose (map faults_of (map (λ (j : Job G). j.1) old)) (map faults_of (map (λ (j : Job G). j.1) new))
  some_rose [] [] e is = absurd (cc is)
  some_rose [] (y ∷ new) e is = let many = e.0 in absurd (omega (arith, many))
  some_rose (x ∷ old) [] e is = let many = e.0 in absurd (omega (arith, many))
  some_rose (x ∷ old) (y ∷ new) e is = by_first (is_failed y.2) refl (some_rose old new (others_done x y old new e))
    where
      by_first : (b : Bool) → is_failed y.2 ≡ b → (has_failed new ≡ true → SomeRose (map faults_of (map (λ (j : Job G). j.1) old)) (map faults_of (map (λ (j : Job G). j.1) new)))
          → SomeRose (map faults_of (map (λ (j : Job G). j.1) (x ∷ old))) (map faults_of (map (λ (j : Job G). j.1) (y ∷ new)))
      by_first true f rest = (0, faults_of x.1, faults_of y.1, refl, refl, (first_done x y old new e).cause.1 (end_cases y.2 true f))
      by_first false f rest = let r = rest (ap (λ (b : Bool). b || has_failed new) (sym f) ∙ is) in (suc r.0, r.1, r.2, r.3, r.4, r.5)

  none_failed : (y : Job G) (new : List (Job G)) → has_failed (y ∷ new) ≡ false → (is_failed y.2 ≡ false) × (has_failed new ≡ false)
  none_failed y new is = parts (is_failed y.2) (has_failed new) is
    where
      parts : (a b : Bool) → (a || b) ≡ false → (a ≡ false) × (b ≡ false)
      parts true b e = absurd (cc e)
      parts false b e = (refl, e)

  same_faults : (old new : List (Job G)) → EachDone old new → has_failed new ≡ false → map faults_of (map (λ (j : Job G). j.1) new) ≡ map faults_of (map (λ (j : Job G). j.1) old)
  same_faults [] [] e is = refl
  same_faults [] (y ∷ new) e is = let many = e.0 in absurd (omega (arith, many))
  same_faults (x ∷ old) [] e is = let many = e.0 in absurd (omega (arith, many))
  same_faults (x ∷ old) (y ∷ new) e is =
      let none = none_failed y new is in
      let served : y.2 ≡ door.Served = end_cases y.2 false none.0 in
      let here_too : faults_of y.1 ≡ faults_of x.1 = (first_done x y old new e).cause.2 (λ failed. absurd (cc (failed, served))) in
      let rest = same_faults old new (others_done x y old new e) none.1 in
      ap (λ (n : ℕ). n ∷ map faults_of (map (λ (j : Job G). j.1) new)) here_too ∙ ap (λ (l : List ℕ). faults_of x.1 ∷ l) rest

  leave_none : (old new : List (Job G)) → EachDone old new → has_failed new ≡ false → LeaveNone (map held_of (map (λ (j : Job G). j.1) old)) (map held_of (map (λ (j : Job G). j.1) new))
  leave_none [] [] e is = tt
  leave_none [] (y ∷ new) e is = let many = e.0 in absurd (omega (arith, many))
  leave_none (x ∷ old) [] e is = let many = e.0 in absurd (omega (arith, many))
  leave_none (x ∷ old) (y ∷ new) e is =
      let none = none_failed y new is in
      ((first_done x y old new e).all (end_cases y.2 false none.0), leave_none old new (others_done x y old new e) none.1)

  -- a door whose count did not rise did not fail
  unless_rose : (old new : List (Job G)) → EachDone old new → LeaveNoneUnlessRose faults_of held_of (map (λ (j : Job G). j.1) old) (map (λ (j : Job G). j.1) new)
  unless_rose [] [] e = tt
  unless_rose [] (y ∷ new) e = let many = e.0 in absurd (omega (arith, many))
  unless_rose (x ∷ old) [] e = let many = e.0 in absurd (omega (arith, many))
  unless_rose (x ∷ old) (y ∷ new) e = (by_failed (is_failed y.2) refl, unless_rose old new (others_done x y old new e))
    where
      by_failed : (b : Bool) → is_failed y.2 ≡ b → ¬ Rose (faults_of x.1) (faults_of y.1) → LeavesNone (held_of x.1) (held_of y.1)
      by_failed true f still = absurd (still ((first_done x y old new e).cause.1 (end_cases y.2 true f)))
      by_failed false f still = (first_done x y old new e).all (end_cases y.2 false f)

  -- ---- the end

  pub ends_as : (old new : List (Job G)) → AreDone K held_of faults_of language here old new → AreBack here new → (s : Seat) (failed : Bool) (past : History) (end : PoolEnd) → failed ≡ has_failed new → IsJoined here new (length new) s → IsWritten s failed past end
      → Complete worker_of s past.seen → EndsAs past (map faults_of (map (λ (j : Job G). j.1) old)) (map faults_of (map (λ (j : Job G). j.1) new)) end
  ends_as old new e back s failed past end is j w c = subst (EndsAs past before now) (sym w.end_is) (by_cases failed w.done refl refl)
    where
      before : List ℕ
      before = map faults_of (map (λ (j : Job G). j.1) old)

      now : List ℕ
      now = map faults_of (map (λ (j : Job G). j.1) new)

      by_cases : (f d : Bool) → failed ≡ f → w.done ≡ d → EndsAs past before now (end_of f d)
      by_cases true d is_f is_d = some_rose old new (e.many, e.each) (sym is ∙ is_f)
      by_cases false true is_f is_d = (same_faults old new (e.many, e.each) (sym is ∙ is_f), subst (λ (b : Bool). MatchBool b (stable past.seen ≡ effects_in past.origin past.seen) (Rose (faults_told past.origin s.seen) (faults_told past.origin past.seen))) is_d w.how)
      by_cases false false is_f is_d = (
        same_faults old new (e.many, e.each) (sym is ∙ is_f),
        record {
          front = s.seen;
          behind = w.behind;
          split = w.seen;
          none = no_behind here new s failed past end j w c back;
          rose = subst (λ (b : Bool). MatchBool b (stable past.seen ≡ effects_in past.origin past.seen) (Rose (faults_told past.origin s.seen) (faults_told past.origin past.seen))) is_d w.how;
        },
      )

  pub left_as : (old new : List (Job G)) → AreDone K held_of faults_of language here old new → (s : Seat) (failed : Bool) (past : History) (end : PoolEnd) → failed ≡ has_failed new → IsWritten s failed past end
      → LeaveAs faults_of held_of (map (λ (j : Job G). j.1) old) (map (λ (j : Job G). j.1) new) end
  left_as old new e s failed past end is w = subst (LeaveAs faults_of held_of (map (λ (j : Job G). j.1) old) (map (λ (j : Job G). j.1) new)) (sym w.end_is) (by_cases failed w.done refl)
    where
      by_cases : (f d : Bool) → failed ≡ f → LeaveAs faults_of held_of (map (λ (j : Job G). j.1) old) (map (λ (j : Job G). j.1) new) (end_of f d)
      by_cases true d is_f = unless_rose old new (e.many, e.each)
      by_cases false true is_f = leave_none old new (e.many, e.each) (sym is ∙ is_f)
      by_cases false false is_f = leave_none old new (e.many, e.each) (sym is ∙ is_f)
