-- The first item that passes, item by item.
use Rattle.std.proofs.Common.{◌≡◌, ℕ, ◌+◌, ◌<◌, List, [], ◌∷◌, length, take, get_or, Bool, true, false, cond, Some, None, find, refl, ◌∙◌, ap, arith, zero, suc}
use Rattle.std.proofs.Common.{not}
use Rattle.std.specs.List.{list_any, position_or_len}
use Rattle.std.proofs.lemmas.Bool.{cond-true, or_parts}
use Rattle.std.proofs.lemmas.List.{take_more}
use Rattle.std.proofs.lemmas.List.Folds.{find-append}
use Rattle.std.specs.Option.{option_or}

-- the item at i is the first that passes, where none before it does
pub find_here : {X : Type 0} (p : X → Bool) (xs : List X) (i : ℕ) (d : X) → i < length xs → find p (take i xs) ≡ None → p (get_or xs i d) ≡ true → find p xs ≡ Some (get_or xs i d)
find_here p [] i d h none passes = absurd (omega arith)
find_here p (x ∷ xs) zero d h none passes = cond-true (p x) (Some x) (find p xs) passes
find_here {X} p (x ∷ xs) (suc i) d h none passes =
    elim (p x) as (λ b. cond b (Some x) (find p (take i xs)) ≡ None → cond b (Some x) (find p xs) ≡ Some (get_or xs i d)) [
      | true ↦ λ e. cc
      | false ↦ λ e. find_here p xs i d (omega arith) e passes
    ] none

-- one item more that does not pass
pub none_more : {X : Type 0} (p : X → Bool) (xs : List X) (i : ℕ) (d : X) → i < length xs → find p (take i xs) ≡ None → p (get_or xs i d) ≡ false → find p (take (i + 1) xs) ≡ None
none_more p xs i d h none fails =
    ap (find p) (take_more xs i d h) ∙ find-append p (take i xs) (get_or xs i d ∷ [])
    ∙ ap (λ o. option_or o (find p (get_or xs i d ∷ []))) none ∙ ap (λ b. cond b (Some (get_or xs i d)) None) fails

-- how far a search goes that ends at i: the items before it do not pass
pub place_here : {X : Type 0} (p : X → Bool) (xs : List X) (i : ℕ) (d : X) → i < length xs → list_any p (take i xs) ≡ false → p (get_or xs i d) ≡ true → position_or_len p xs ≡ i
place_here p [] i d h none passes = absurd (omega arith)
place_here p (x ∷ xs) zero d h none passes = ap (λ b. cond (not b) (1 + position_or_len p xs) 0) passes
place_here {X} p (x ∷ xs) (suc i) d h none passes =
    let parts = or_parts (p x) (list_any p (take i xs)) none in
    let rest : position_or_len p xs ≡ i = place_here p xs i d (omega arith) parts.1 passes in
    ap (λ b. cond (not b) (1 + position_or_len p xs) 0) parts.0 ∙ omega arith

-- and one that finds nothing
pub place_nowhere : {X : Type 0} (p : X → Bool) (xs : List X) → list_any p xs ≡ false → position_or_len p xs ≡ length xs
place_nowhere p [] none = refl
place_nowhere {X} p (x ∷ xs) none =
    let parts = or_parts (p x) (list_any p xs) none in
    let rest : position_or_len p xs ≡ length xs = place_nowhere p xs parts.1 in
    ap (λ b. cond (not b) (1 + position_or_len p xs) 0) parts.0 ∙ omega arith
