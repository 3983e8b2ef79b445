-- What one more member changes.
use Rattle.std.proofs.Common.{◌≡◌, ℕ, ◌+◌, ◌-◌, ◌<◌, ◌≤◌, List, [], ◌∷◌, ◌++◌, length, take, get_or, Bool, true, false, cond, Option, Some, None, refl, ap, ◌∙◌, arith}
use Rattle.std.proofs.lemmas.Bool.{cond-true, cond-false}
use Rattle.std.proofs.lemmas.List.{take_more}
use Rattle.std.specs.Str.{bytes_eq}
use Rattle.exact_json.specs.declared.value.Member.{Member}
use Rattle.exact_json.specs.Tree.{Tree, later_or, get_pair}
use Rattle.exact_json.specs.View.{pair_of, pairs_of}

latest : (b : Bool) (t : Tree) (o p : Option Tree) → later_or (cond b (Some t) o) p ≡ cond b (Some t) (later_or o p)
latest true t o p = refl
latest false t o p = refl

push : (name : List ℕ) (ms : List Member) (m : Member) → get_pair name (pairs_of (ms ++ m ∷ [])) ≡ cond (bytes_eq (pair_of m).0 name) (Some (pair_of m).1) (get_pair name (pairs_of ms))
push name [] m = refl
push name (q ∷ ms) m =
    ap (λ o. later_or o (cond (bytes_eq (pair_of q).0 name) (Some (pair_of q).1) None)) (push name ms m) ∙ latest (bytes_eq (pair_of m).0 name) (pair_of m).1 _ _

last_of : (name : List ℕ) (ms : List Member) (n k : ℕ) (d : Member) → n ≡ k + 1 → k < length ms
    → get_pair name (pairs_of (take n ms)) ≡ cond (bytes_eq (pair_of (get_or ms k d)).0 name) (Some (pair_of (get_or ms k d)).1) (get_pair name (pairs_of (take k ms)))
last_of name ms n k d e lt = ap (λ l. get_pair name (pairs_of (take l ms))) e ∙ ap (λ l. get_pair name (pairs_of l)) (take_more ms k d lt) ∙ push name (take k ms) (get_or ms k d)

-- the last of the first n is of that name
pub last_named : (name : List ℕ) (ms : List Member) (n : ℕ) (d : Member) → 0 < n → n ≤ length ms → bytes_eq (pair_of (get_or ms (n - 1) d)).0 name ≡ true
    → get_pair name (pairs_of (take n ms)) ≡ Some (pair_of (get_or ms (n - 1) d)).1
last_named name ms n d some le h = last_of name ms n (n - 1) d (omega (arith, some)) (omega (arith, some, le)) ∙ cond-true _ _ _ h

-- it is of another
pub last_other : (name : List ℕ) (ms : List Member) (n : ℕ) (d : Member) → 0 < n → n ≤ length ms → bytes_eq (pair_of (get_or ms (n - 1) d)).0 name ≡ false
    → get_pair name (pairs_of (take n ms)) ≡ get_pair name (pairs_of (take (n - 1) ms))
last_other name ms n d some le h = last_of name ms n (n - 1) d (omega (arith, some)) (omega (arith, some, le)) ∙ cond-false _ _ _ h
