-- The first of several faults.
use Rattle.std.proofs.Common.{◌≡◌, ℕ, ◌≤◌, List, [], ◌++◌, length, Bool, true, false, cond, Some, None, refl, sym, ◌∙◌, ap, ltb, nat_eq}
use Rattle.std.proofs.lemmas.Bool.{le-ltb}
use Rattle.cnf_match.specs.declared.fault.CnfFault.{CnfFault}
use Rattle.cnf_match.specs.Making.{fault_where, first_of}

-- of three tests the first that passes tells the fault
pub three_faults : (a b c : Bool) (f g h : CnfFault) → first_of (fault_where a f ++ fault_where b g ++ fault_where c h) ≡ cond a (Some f) (cond b (Some g) (cond c (Some h) None))
three_faults true b c f g h = refl
three_faults false true c f g h = refl
three_faults false false true f g h = refl
three_faults false false false f g h = refl

-- no more than the limit
pub few : {X : Type 0} (xs : List X) (f : CnfFault) {n : ℕ} → length xs ≤ n → fault_where (ltb n (length xs)) f ≡ []
few xs f {n} h = ap (λ t. fault_where t f) (le-ltb n (length xs) h)

-- and not empty
pub some_but_few : {X : Type 0} (xs : List X) (b : Bool) (f g : CnfFault) → b ≡ nat_eq (length xs) 0 → b ≡ false → {n : ℕ} → length xs ≤ n
    → fault_where (nat_eq (length xs) 0) f ++ fault_where (ltb n (length xs)) g ≡ []
some_but_few xs b f g is fails {n} h = ap (λ t. fault_where t f ++ fault_where (ltb n (length xs)) g) (sym is ∙ fails) ∙ few xs g h

-- a test that passes tells its fault, and one that fails none
pub told : (b : Bool) (f : CnfFault) → b ≡ true → Some f ≡ first_of (fault_where b f)
told true f e = refl
told false f e = cc

pub untold : (b : Bool) (f : CnfFault) → b ≡ false → None ≡ first_of (fault_where b f)
untold true f e = cc
untold false f e = refl
