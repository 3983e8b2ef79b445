-- Seats that are split off.
use Rattle.std.proofs.Common.{◌≡◌, ℕ, false, ◌+◌, Some, refl, ◌∙◌, ap, arith}
use Rattle.atomic_table.specs.Seated.{TableId}
use Rattle.hist_lock.specs.Views.{SeatView, SplitsOff, first_seat}
use Rattle.rtb_bench.specs.Turns.{IsFirst, IsHired}

abbrev V : Type 0
V = SeatView ℕ ℕ

pub first_of : (lock : TableId) (o : ℕ) (s : V) → s ≡ first_seat lock o → IsFirst lock 0 s
first_of lock o s is = record { enters = (ap (λ (y : V). y.lock) is, ap (λ (y : V). y.turn) is); worker = ap (λ (y : V). y.worker) is; made = ap (λ (y : V). y.made) is }

pub splits_one : (worker_of : ℕ → ℕ) (lock : TableId) (n : ℕ) (s t u : V) → IsFirst lock n s → SplitsOff worker_of s t u → IsFirst lock (n + 1) t
splits_one worker_of lock n s t u f p = record {
  enters = (ap (λ (y : V). y.lock) p.0 ∙ f.enters.0, ap (λ (y : V). y.turn) p.0 ∙ f.enters.1);
  worker = ap (λ (y : V). y.worker) p.0 ∙ f.worker;
  made = ap (λ (y : V). y.made) p.0 ∙ (let m = f.made in omega (arith, m));
}

pub hired : (worker_of : ℕ → ℕ) (lock : TableId) (n : ℕ) (s t u : V) → IsFirst lock n s → SplitsOff worker_of s t u → IsHired lock (Some u)
hired worker_of lock n s t u f p = record { seat = u; has = refl; enters = (ap (λ (y : V). y.lock) p.1 ∙ f.enters.0, ap (λ (y : V). y.turn) p.1) }
