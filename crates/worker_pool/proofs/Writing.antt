-- The last write.
use Rattle.std.proofs.Common.{◌≡◌, ℕ, Bool, true, false, List, [], ◌∷◌, ◌++◌, sym, ◌∙◌, ap, subst}
use Rattle.door_worker.proofs.Going.{goes_fails, goes_writes}
use Rattle.exchange_shared.specs.Seats.{Fails, Seat, Writes, effects_in}
use Rattle.exchange_state.proofs.Marks.{told_then}
use Rattle.exchange_state.specs.declared.entries.Entry.{Entry}
use Rattle.exchange_state.specs.declared.entries.Origin.{Origin}
use Rattle.exchange_state.specs.Views.{faults_of, faults_told, put, stable}
use Rattle.rtb_base.specs.Faults.{Rose}
use Rattle.worker_pool.specs.Ending.{IsWritten, end_of}
use Rattle.worker_pool.specs.Pools.{History}
use Rattle.worker_pool.specs.declared.pool.PoolEnd.{PoolEnd}

pub written_whole : (s t : Seat) (failed : Bool) (past : History) (end : PoolEnd) → Writes s t → stable t.seen ≡ effects_in t.origin t.seen → (past.origin ≡ t.origin) × (past.seen ≡ t.seen) → end ≡ end_of failed true → IsWritten s failed past end
written_whole s t failed past end w whole p is =
    let g = goes_writes s t w in
    let origin_t : t.origin ≡ s.origin = ap (λ (x : Seat). x.origin) g.same in
    let seen_t : t.seen ≡ s.seen ++ g.more = ap (λ (x : Seat). x.seen) g.same in
    record {
      origin = p.0 ∙ origin_t;
      behind = g.more;
      seen = p.1 ∙ seen_t;
      none = g.calls_are;
      done = true;
      end_is = is;
      how = ap stable p.1 ∙ whole ∙ ap (λ (o : Origin). effects_in o t.seen) (sym p.0) ∙ ap (effects_in past.origin) (sym p.1);
    }

pub written_in_part : (s t : Seat) (failed : Bool) (past : History) (end : PoolEnd) → Fails s t → (past.origin ≡ t.origin) × (past.seen ≡ t.seen) → end ≡ end_of failed false → IsWritten s failed past end
written_in_part s t failed past end f p is =
    let g = goes_fails s t f in
    let origin_t : t.origin ≡ s.origin = ap (λ (x : Seat). x.origin) g.same in
    let origin_is : past.origin ≡ s.origin = p.0 ∙ origin_t in
    let l : List Entry = s.seen ++ f.more in
    let seen_is : past.seen ≡ l ++ put s.worker false f.durable f.faults ∷ [] = p.1 ∙ ap (λ (x : Seat). x.seen) f.same in
    let told : faults_told s.origin (l ++ put s.worker false f.durable f.faults ∷ []) ≡ f.faults = told_then faults_of s.origin.faults l (put s.worker false f.durable f.faults) in
    let told_past : faults_told past.origin past.seen ≡ f.faults = ap (λ (o : Origin). faults_told o past.seen) origin_is ∙ ap (faults_told s.origin) seen_is ∙ told in
    record {
      origin = origin_is;
      behind = g.more;
      seen = p.1 ∙ ap (λ (x : Seat). x.seen) g.same;
      none = g.calls_are;
      done = false;
      end_is = is;
      how = subst (λ (n : ℕ). Rose (faults_told past.origin s.seen) n) (sym told_past) (subst (λ (o : Origin). Rose (faults_told o s.seen) f.faults) (sym origin_is) f.rose_in_call);
    }
