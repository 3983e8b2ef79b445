-- Tests of lists, one item further.
use Rattle.std.proofs.Common.{◌≡◌, ℕ, ◌+◌, ◌-◌, ◌<◌, ◌≤◌, ◌&&◌, List, Bool, true, false, drop, get_or, inl, inr, length, take, sym, ◌∙◌, ap, arith}
use Rattle.std.specs.List.{enumerate_from, list_all}
use Rattle.std.proofs.lemmas.Bool.{and_from, cases_Bool, false≢true}
use Rattle.std.proofs.lemmas.List.Folds.{list_all_more}
use Rattle.std.proofs.lemmas.List.FromFn.{get_or-enumerate_from, length-enumerate_from}
use Rattle.std.proofs.lemmas.Option.{slice_get-get_or}
use Rattle.target_expr.specs.Kept.{rise}
use Rattle.target_expr.proofs.ByteOrder.{rise_step}
use Rattle.top_match.specs.declared.scored.Scored.{Scored}
use Rattle.top_match.specs.Top.{is_before}
use Rattle.top_match.proofs.Places.{all_enumerated}

pub rise_turn : (xs : List Scored) (i : ℕ) (d : Scored) (b : Bool) → 1 ≤ i → i < length xs → b ≡ is_before (get_or xs (i - 1) d) (get_or xs i d) → b ≡ true
    → rise is_before (drop (i - 1) xs) ≡ rise is_before xs → rise is_before (drop (i + 1 - 1) xs) ≡ rise is_before xs
rise_turn xs i d b some h is passes was =
    let here : i + 1 - 1 ≡ i = omega arith in
    ap (λ k. rise is_before (drop k xs)) here
    ∙ sym (ap (λ t. t && rise is_before (drop i xs)) (sym is ∙ passes))
    ∙ sym (rise_step is_before xs i d some h) ∙ was

item_is : {X : Type 0} (xs : List X) (i : ℕ) (d : X) → i < length xs → get_or (enumerate_from 0 xs) i (i, d) ≡ (i, get_or xs i d)
item_is {X} xs i d h =
    let zeroth : 0 + i ≡ i = omega arith in
    get_or-enumerate_from 0 xs i (i, d) h ∙ ap (λ (n : ℕ). (n, get_or xs i d)) zeroth

pub passes_on : {X : Type 0} (p : ℕ × X → Bool) (xs : List X) (i : ℕ) (d : X) (b : Bool) → i < length xs → b ≡ p (i, get_or xs i d) → b ≡ true
    → list_all p (take i (enumerate_from 0 xs)) ≡ true → list_all p (take (i + 1) (enumerate_from 0 xs)) ≡ true
passes_on p xs i d b h is passes was =
    let within : i < length (enumerate_from 0 xs) = omega (arith, h, length-enumerate_from 0 xs) in
    list_all_more p (enumerate_from 0 xs) i (i, d) within
    ∙ and_from (list_all p (take i (enumerate_from 0 xs))) (p (get_or (enumerate_from 0 xs) i (i, d))) was (ap p (item_is xs i d h) ∙ sym is ∙ passes)

pub one_fails : {X : Type 0} (p : ℕ × X → Bool) (xs : List X) (i : ℕ) (d : X) (b : Bool) → i < length xs → b ≡ p (i, get_or xs i d) → b ≡ false → list_all p (enumerate_from 0 xs) ≡ false
one_fails {X} p xs i d b h is fails = elim (cases_Bool (list_all p (enumerate_from 0 xs))) [
  | inl all ↦
      let zeroth : i ≡ 0 + i = omega arith in
      absurd (false≢true (sym (sym is ∙ fails) ∙ ap (λ (n : ℕ). p (n, get_or xs i d)) zeroth ∙ all_enumerated p 0 xs i (get_or xs i d) all (slice_get-get_or xs i d h)))
  | inr some ↦ some
]
