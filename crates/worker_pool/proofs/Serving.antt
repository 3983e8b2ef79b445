-- What comes of all doors together.
use Rattle.std.proofs.Common.{◌≡◌, ℕ, Bool, List, ◌++◌, drop, length, map, take, sym, ◌∙◌, ap, subst, arith, Option}
use Rattle.std.proofs.lemmas.List.{take-append-le, take_all}
use Rattle.atomic_table.specs.Seated.{TableId}
use Rattle.door_worker.proofs.Going.{origin_is}
use Rattle.door_worker.specs.Languages.{Language}
use Rattle.exchange_shared.specs.Seats.{Seat, worker_of}
use Rattle.exchange_state.specs.declared.entries.Origin.{Origin}
use Rattle.hist_lock.specs.Views.{Complete}
use Rattle.link_door.specs.Doors.{Held}
use Rattle.link_door.specs.declared.link.Link.{Ghosts}
use Rattle.worker_pool.proofs.Closing.{all_served, head_of}
use Rattle.worker_pool.proofs.Finishing.{ends_as, left_as}
use Rattle.worker_pool.proofs.Joining.{had_is}
use Rattle.worker_pool.specs.Ending.{IsWritten}
use Rattle.worker_pool.specs.Hiring.{AreGathered, AreHired, Job}
use Rattle.worker_pool.specs.Pools.{AreServed, EndsAs, History, LeaveAs}
use Rattle.worker_pool.specs.declared.pool.PoolEnd.{PoolEnd}

-- a slice of a whole vector, as it comes back
pub lent_back : {X : Type 0} (l back : List X) (n : ℕ) → length back ≡ n → take n (back ++ drop (length back) l) ≡ back
lent_back l back n e = take-append-le n back (drop (length back) l) (omega (arith, e)) ∙ take_all n back (omega (arith, e))

module _ {G L : Type 0} (K : Ghosts L) (held_of : G → Option (Held L)) (faults_of : G → ℕ) (language : Language) (here : TableId) where
  pub record Comes (o : Origin) (past : History) (before after : List G) (end : PoolEnd) : Type 0 where
    pub origin : past.origin ≡ o
    pub served : AreServed K language past (map held_of before) (map held_of after)
    pub left : LeaveAs faults_of held_of before after end
    pub ends : EndsAs past (map faults_of before) (map faults_of after) end

  pub comes : (o : Origin) (old left : List (Job G)) (s : Seat) (failed : Bool) (past : History) (end : PoolEnd) (before after : List G) → AreHired here o old → AreGathered K held_of faults_of language here old left s failed → IsWritten s failed past end
      → Complete worker_of s past.seen → map (λ (j : Job G). j.1) old ≡ before → after ≡ map (λ (j : Job G). j.1) left → Comes o past before after end
  comes o old left s failed past end before after h a w c was is =
      let now : map (λ (j : Job G). j.1) a.jobs ≡ after = sym (is ∙ a.doors) in
      let d = head_of old h.some in
      let first = h.each 0 d h.some in
      let done = a.done.each 0 d h.some in
      let same : done.before ≡ first.seat = had_is K held_of faults_of language here o 0 _ _ first done in
      let joined = a.joined.fronts 0 done.after d a.back.some done.has in
      record {
        origin = w.origin ∙ joined.origin ∙ origin_is _ _ done.before done.after done.served.answers.goes ∙ ap (λ (x : Seat). x.origin) same ∙ first.fresh.origin;
        served =
            subst (λ (l : List G). AreServed K language past (map held_of before) (map held_of l)) now
            (subst (λ (l : List G). AreServed K language past (map held_of l) (map held_of (map (λ (j : Job G). j.1) a.jobs))) was (all_served K held_of faults_of language here o old a.jobs h a.done s failed past end a.joined w c));
        left =
            subst (λ (l : List G). LeaveAs faults_of held_of before l end) now
            (subst (λ (l : List G). LeaveAs faults_of held_of l (map (λ (j : Job G). j.1) a.jobs) end) was (left_as K held_of faults_of language here old a.jobs a.done s failed past end a.failed_is w));
        ends =
            subst (λ (l : List G). EndsAs past (map faults_of before) (map faults_of l) end) now
            (subst (λ (l : List G). EndsAs past (map faults_of l) (map faults_of (map (λ (j : Job G). j.1) a.jobs)) end) was (ends_as K held_of faults_of language here old a.jobs a.done a.back s failed past end a.failed_is a.joined w c));
      }
