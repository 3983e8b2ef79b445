-- What counts of faults did: where the count stands, and behind calls that left it.
use Rattle.std.proofs.Common.{◌≡◌, ℕ, subst, sym, refl, arith, le_refl}
use Rattle.rtb_base.specs.Faults.{RisesOnlyWhere, RoseAtMost}

pub stands : (F : Type 0) (a b : ℕ) → b ≡ a → (F → ⊥) → RisesOnlyWhere F a b
stands F a b e none = subst (λ k. RisesOnlyWhere F a k) (sym e) (le_refl a, λ failed. absurd (none failed), λ no. refl)

pub stands_once : (a b : ℕ) → b ≡ a → RoseAtMost 1 a b
stands_once a b e = (omega (arith, e), omega (arith, e))

pub once_last : (a b c : ℕ) → b ≡ a → RoseAtMost 1 b c → RoseAtMost 1 a c
once_last a b c e h = subst (λ k. RoseAtMost 1 k c) e h
