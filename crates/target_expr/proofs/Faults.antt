-- The first of several faults.
use Rattle.std.proofs.Common.{◌≡◌, ℕ, ◌+◌, ◌<◌, ◌≤◌, List, [], ◌∷◌, ◌++◌, length, take, drop, get_or, Bool, true, false, cond, Option, Some, None, find, is_some, refl, sym, ◌∙◌, ap, arith, take-append-drop}
use Rattle.std.specs.List.{enumerate_from, flat_map}
use Rattle.std.proofs.lemmas.Bool.{le-ltb}
use Rattle.std.proofs.Common.{ltb, nat_eq}
use Rattle.std.proofs.lemmas.List.{take_all}
use Rattle.std.proofs.lemmas.List.Concat.{flat_map-append}
use Rattle.std.proofs.lemmas.List.FromFn.{length-enumerate_from}
use Rattle.target_expr.proofs.Enumerated.{flat_map_enumerated}
use Rattle.target_expr.specs.declared.fault.ExprFault.{ExprFault}
use Rattle.target_expr.specs.Kept.{fault_where, first_of}

-- of four tests the first that passes tells the fault
pub four_faults : (a b c d : Bool) (f g h k : ExprFault) → first_of (fault_where a f ++ fault_where b g ++ fault_where c h ++ fault_where d k)
    ≡ cond a (Some f) (cond b (Some g) (cond c (Some h) (cond d (Some k) None)))
four_faults true b c d f g h k = refl
four_faults false true c d f g h k = refl
four_faults false false true d f g h k = refl
four_faults false false false true f g h k = refl
four_faults false false false false f g h k = refl

pub no_fault : (a b : ℕ) (f : ExprFault) → b ≤ a → fault_where (ltb a b) f ≡ []
no_fault a b f h = ap (λ t. fault_where t f) (le-ltb a b h)

-- ---- the first of faults of any kind

abbrev first : {F : Type 0} → List F → Option F
first fs = find (λ _. true) fs

pub none_first : {F : Type 0} (fs : List F) → is_some (first fs) ≡ false → fs ≡ []
none_first [] e = refl
none_first (f ∷ fs) e = cc

pub first_kept : {F : Type 0} (fs more : List F) → is_some (first fs) ≡ true → first fs ≡ first (fs ++ more)
first_kept [] more e = cc
first_kept (f ∷ fs) more e = refl

-- the fault of the item at i is the first, where the items before it have none
pub first_here : {X F : Type 0} (head : List F) (f : ℕ × X → List F) (xs : List X) (i : ℕ) (d : X) (r : Option F)
    → head ≡ [] → i < length xs → flat_map f (take i (enumerate_from 0 xs)) ≡ [] → r ≡ first (f (i, get_or xs i d)) → is_some r ≡ true
    → r ≡ first (head ++ flat_map f (enumerate_from 0 xs))
first_here {X} {F} head f xs i d r none within before is some =
    let all : flat_map f (enumerate_from 0 xs) ≡ f (i, get_or xs i d) ++ flat_map f (drop (i + 1) (enumerate_from 0 xs)) =
    sym (ap (flat_map f) (take-append-drop (i + 1) (enumerate_from 0 xs)))
    ∙ flat_map-append f (take (i + 1) (enumerate_from 0 xs)) (drop (i + 1) (enumerate_from 0 xs))
    ∙ ap (λ l. l ++ flat_map f (drop (i + 1) (enumerate_from 0 xs))) (flat_map_enumerated f xs i d within ∙ ap (λ l. l ++ f (i, get_or xs i d)) before) in
    is ∙ first_kept (f (i, get_or xs i d)) _ (ap is_some (sym is) ∙ some) ∙ ap first (sym all) ∙ ap (λ (l : List F). first (l ++ flat_map f (enumerate_from 0 xs))) (sym none)

-- there is none, where no item has one
pub first_nowhere : {X F : Type 0} (head : List F) (f : ℕ × X → List F) (xs : List X) (n : ℕ)
    → head ≡ [] → length xs ≤ n → flat_map f (take n (enumerate_from 0 xs)) ≡ [] → None ≡ first (head ++ flat_map f (enumerate_from 0 xs))
first_nowhere {X} {F} head f xs n none all empty =
    let whole : length (enumerate_from 0 xs) ≤ n = omega (arith, length-enumerate_from 0 xs) in
    let nothing : flat_map f (enumerate_from 0 xs) ≡ [] = sym (ap (flat_map f) (take_all n (enumerate_from 0 xs) whole)) ∙ empty in
    ap first (sym nothing) ∙ ap (λ (l : List F). first (l ++ flat_map f (enumerate_from 0 xs))) (sym none)

-- one item more without a fault
pub none_more : {X F : Type 0} (f : ℕ × X → List F) (xs : List X) (i : ℕ) (d : X) (r : Option F)
    → i < length xs → flat_map f (take i (enumerate_from 0 xs)) ≡ [] → r ≡ first (f (i, get_or xs i d)) → is_some r ≡ false
    → flat_map f (take (i + 1) (enumerate_from 0 xs)) ≡ []
none_more f xs i d r within before is none =
    flat_map_enumerated f xs i d within ∙ ap (λ l. l ++ f (i, get_or xs i d)) before ∙ none_first (f (i, get_or xs i d)) (ap is_some (sym is) ∙ none)

-- a list that is not empty, and no longer than the limit
pub no_faults : {X : Type 0} (xs : List X) (b : Bool) (f g : ExprFault) → b ≡ nat_eq (length xs) 0 → b ≡ false → {n : ℕ} → length xs ≤ n
    → fault_where (nat_eq (length xs) 0) f ++ fault_where (ltb n (length xs)) g ≡ []
no_faults xs b f g is fails {n} h = ap (λ t. fault_where t f ++ fault_where (ltb n (length xs)) g) (sym is ∙ fails) ∙ no_fault n (length xs) g h
