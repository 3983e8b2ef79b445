-- Two that were made one after the other.
use Rattle.std.proofs.Common.{◌≡◌, Result, Ok, Err, IfOk, ap, subst}
use Rattle.cnf_match.specs.Making.{both_of}

abbrev taken : {A B E : Type 0} → A × B → Result (A × B) E → A × B
taken d (Ok p) = p
taken d (Err e) = d

pub both_are : {A B E : Type 0} (first : Result A E) (second : Result B E) (a : A) (b : B) (P : A → Type 0) (Q : B → Type 0)
    → IfOk first P → IfOk second Q → both_of first second ≡ Ok (a, b) → P a × Q b
both_are (Ok x) (Ok y) a b P Q p q e =
    let same : (x, y) ≡ (a, b) = ap (taken (a, b)) e in
    (subst P (ap (λ r. r.0) same) p, subst Q (ap (λ r. r.1) same) q)
both_are (Ok x) (Err r) a b P Q p q e = cc
both_are (Err r) second a b P Q p q e = cc
