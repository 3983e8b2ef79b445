-- What counts of faults did over calls in a row.
use Rattle.std.proofs.Common.{◌≡◌, ℕ, ◌+◌, ◌≤◌, ◌⊎◌, Ok, Err, Result, arith, inl, inr, subst}
use Rattle.rtb_base.specs.Faults.{Rose, RoseBy, RoseAtMost, CountsErrors, RisesOnlyWhere, RisesWhere}

-- a rise stays one where the count did not fall before it, or behind it
pub Rose-before : (a b c : ℕ) → a ≤ b → Rose b c → Rose a c
Rose-before a b c h r = omega (arith, h, r)

pub Rose-behind : (a b c : ℕ) → Rose a b → b ≤ c → Rose a c
Rose-behind a b c r h = omega (arith, h, r)

-- rises add up
pub RoseBy-none : (a b : ℕ) → a ≤ b → RoseBy 0 a b
RoseBy-none a b h = omega (arith, h)

pub RoseBy-trans : (j k a b c : ℕ) → RoseBy j a b → RoseBy k b c → RoseBy (j + k) a c
RoseBy-trans j k a b c r s = omega (arith, r, s)

pub RoseAtMost-trans : (j k a b c : ℕ) → RoseAtMost j a b → RoseAtMost k b c → RoseAtMost (j + k) a c
RoseAtMost-trans j k a b c (u, r) (v, s) = (omega (arith, u, v), omega (arith, r, s))

-- an error of a call whose only error is a fault
pub CountsErrors-most : {T E : Type 0} (a b : ℕ) (r : Result T E) → CountsErrors a b r → RoseAtMost 1 a b
CountsErrors-most a b (Ok x) e = (omega (arith, e), omega (arith, e))
CountsErrors-most a b (Err x) e = (e.0, e.2)

-- a call behind others that left the count as it was
pub RisesOnlyWhere-last : (F : Type 0) (a b c : ℕ) → b ≡ a → RisesOnlyWhere F b c → RisesOnlyWhere F a c
RisesOnlyWhere-last F a b c e h = subst (λ n. RisesOnlyWhere F n c) e h

-- the weaker word
pub RisesOnlyWhere-rises : (F : Type 0) (a b : ℕ) → RisesOnlyWhere F a b → RisesWhere F a b
RisesOnlyWhere-rises F a b h = (h.0, h.1)

-- two calls in a row, of which a fault of either may end the whole
pub RisesWhere-trans : (F G H : Type 0) (a b c : ℕ) → (H → F ⊎ G) → RisesWhere F a b → RisesWhere G b c → RisesWhere H a c
RisesWhere-trans F G H a b c cause h k = (omega (arith, h.0, k.0), λ failed. either (cause failed))
  where
    either : F ⊎ G → Rose a c
    either (inl f) = Rose-behind a b c (h.1 f) k.0
    either (inr g) = Rose-before a b c h.0 (k.1 g)
