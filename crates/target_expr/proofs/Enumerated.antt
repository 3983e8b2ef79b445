-- A list with the places of its items, one item further.
use Rattle.std.proofs.Common.{◌≡◌, ℕ, ◌+◌, ◌<◌, ◌≤◌, List, [], ◌∷◌, ◌++◌, length, take, get_or, ◌∙◌, ap, arith}
use Rattle.std.specs.List.{enumerate_from, flat_map}
use Rattle.std.proofs.lemmas.List.{take_more, take_all}
use Rattle.std.proofs.lemmas.List.Concat.{flat_map-append}
use Rattle.std.proofs.lemmas.List.Folds.{length-flat_map-take}
use Rattle.std.proofs.lemmas.List.FromFn.{length-enumerate_from, get_or-enumerate_from}
use Rattle.std.proofs.lemmas.List.{append-nil}

-- the next item's own list comes behind those of the items before it
pub flat_map_enumerated : {X A : Type 0} (f : ℕ × X → List A) (xs : List X) (i : ℕ) (d : X) → i < length xs
    → flat_map f (take (i + 1) (enumerate_from 0 xs)) ≡ flat_map f (take i (enumerate_from 0 xs)) ++ f (i, get_or xs i d)
flat_map_enumerated f xs i d h =
    let within : i < length (enumerate_from 0 xs) = omega (arith, length-enumerate_from 0 xs) in
    let zeroth : 0 + i ≡ i = omega arith in
    ap (flat_map f) (take_more (enumerate_from 0 xs) i (i, d) within)
    ∙ flat_map-append f (take i (enumerate_from 0 xs)) (get_or (enumerate_from 0 xs) i (i, d) ∷ [])
    ∙ ap (λ l. flat_map f (take i (enumerate_from 0 xs)) ++ l) (append-nil (f (get_or (enumerate_from 0 xs) i (i, d)))
    ∙ ap f (get_or-enumerate_from 0 xs i (i, d) h ∙ ap (λ n. (n, get_or xs i d)) zeroth))

-- so they are no longer than all together
pub length_enumerated : {X A : Type 0} (f : ℕ × X → List A) (xs : List X) (i : ℕ) (d : X) → i < length xs
    → length (flat_map f (take i (enumerate_from 0 xs))) + length (f (i, get_or xs i d)) ≤ length (flat_map f (enumerate_from 0 xs))
length_enumerated f xs i d h =
    let within : i < length (enumerate_from 0 xs) = omega (arith, length-enumerate_from 0 xs) in
    let zeroth : 0 + i ≡ i = omega arith in
    let same : f (get_or (enumerate_from 0 xs) i (i, d)) ≡ f (i, get_or xs i d) = ap f (get_or-enumerate_from 0 xs i (i, d) h ∙ ap (λ n. (n, get_or xs i d)) zeroth) in
    omega (arith, length-flat_map-take f (enumerate_from 0 xs) i (i, d) within, ap length same)

pub taken_whole : {X : Type 0} (xs : List X) (n : ℕ) → length xs ≤ n → take n (enumerate_from 0 xs) ≡ enumerate_from 0 xs
taken_whole xs n h = take_all n (enumerate_from 0 xs) (omega (arith, length-enumerate_from 0 xs))
