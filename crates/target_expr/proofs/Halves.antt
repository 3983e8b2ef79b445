-- A text among texts in byte order, by halves.
use Rattle.std.proofs.Common.{◌≡◌, ℕ, ◌+◌, ◌<◌, ◌≤◌, List, [], ◌∷◌, length, get_or, Bool, true, false, Result, Ok, Err, refl, sym, ap, subst, ◌∙◌, arith, zero, suc}
use Rattle.std.specs.Result.{is_ok}
use Rattle.std.specs.declared.cmp.Ordering.{Ordering}
use Rattle.std.specs.declared.cmp.Ordering.TheVariants.{Less, Equal, Greater}
use Rattle.std.specs.Ordering.{nat_cmp, ordering_index, is_eq, is_lt}
use Rattle.std.specs.Cmp.Lexicographic.{slice_cmp, nat_list_cmp_total}
use Rattle.std.specs.List.{list_any}
use Rattle.std.specs.List.Sorted.{IsBinarySearchResult, IsSearchInRange}
use Rattle.std.specs.Str.{bytes_eq}
use Rattle.std.specs.Prelude.{nat_lt}
use Rattle.std.proofs.lemmas.Bool.{and_parts}
use Rattle.std.proofs.lemmas.Bool.Decides.{nat_tests}
use Rattle.std.proofs.lemmas.List.Folds.{list_any_at, list_any_none}
use Rattle.std.proofs.lemmas.List.Sorted.{IsNonDecreasingBy-from_all_adjacent}
use Rattle.std.proofs.lemmas.Map.Text.{is_eq-slice_cmp}
use Rattle.target_expr.specs.Kept.{rise, text_below}
use Rattle.target_expr.proofs.ByteOrder.{same_text}

abbrev order : List ℕ → List ℕ → Ordering
order = slice_cmp nat_cmp

at_most_greatest : (o : Ordering) → ordering_index o ≤ ordering_index Greater
at_most_greatest Less = omega arith
at_most_greatest Equal = omega arith
at_most_greatest Greater = omega arith

from_least : (o : Ordering) → ordering_index Less ≤ ordering_index o
from_least Less = omega arith
from_least Equal = omega arith
from_least Greater = omega arith

below_is : (a b : List ℕ) → text_below a b ≡ true → order a b ≡ Less
below_is a b e = is (order a b) e
  where
    is : (o : Ordering) → is_lt o ≡ true → o ≡ Less
    is Less e = refl
    is Equal e = cc
    is Greater e = cc

-- of two texts that rise, the first compares no higher with any text
rises : (a b x : List ℕ) → order a b ≡ Less → ordering_index (order a x) ≤ ordering_index (order b x)
rises a b x e = by_second (order b x) refl
  where
    by_second : (o : Ordering) → order b x ≡ o → ordering_index (order a x) ≤ ordering_index (order b x)
    by_second Less h =
        let less : order a x ≡ Less = nat_list_cmp_total.trans a b x e h in
        subst (λ o. ordering_index o ≤ ordering_index (order b x)) (sym less) (from_least (order b x))
    by_second Equal h =
        let less : order a x ≡ Less = ap (order a) (sym (same_text b x h)) ∙ e in
        subst (λ o. ordering_index o ≤ ordering_index (order b x)) (sym less) (from_least (order b x))
    by_second Greater h = subst (λ o. ordering_index (order a x) ≤ ordering_index o) (sym h) (at_most_greatest (order a x))

rise_at : {A : Type 0} (below : A → A → Bool) (xs : List A) (k : ℕ) (d : A) → rise below xs ≡ true → k + 1 < length xs → below (get_or xs k d) (get_or xs (k + 1) d) ≡ true
rise_at below [] k d up lt = absurd (omega arith)
rise_at below (x ∷ []) k d up lt = absurd (omega arith)
rise_at below (x ∷ y ∷ xs) zero d up lt = (and_parts _ _ up).0
rise_at below (x ∷ y ∷ xs) (suc k) d up lt =
    let e : suc k + 1 ≡ suc (k + 1) = omega arith in
    subst (λ j. below (get_or (y ∷ xs) k d) (get_or (x ∷ y ∷ xs) j d) ≡ true) (sym e) (rise_at below (y ∷ xs) k d (and_parts _ _ up).1 (omega arith))

ties : (x y : List ℕ) (o : Ordering) → order y x ≡ o → bytes_eq y x ≡ is_eq o
ties x y o e = sym (is_eq-slice_cmp y x) ∙ ap is_eq e

-- what stands below or above the place is another text
apart : (xs : List (List ℕ)) (x : List ℕ) (i k : ℕ) (d : List ℕ) → k < length xs → ((j : ℕ) (e : List ℕ) → 0 ≤ j → j < i → order (get_or xs j e) x ≡ Less) → ((j : ℕ) (e : List ℕ) → i ≤ j → j < length xs → order (get_or xs j e) x ≡ Greater)
    → bytes_eq (get_or xs k d) x ≡ false
apart xs x i k d lt low high = by_side (nat_lt k i) refl
  where
    by_side : (b : Bool) → nat_lt k i ≡ b → bytes_eq (get_or xs k d) x ≡ false
    by_side true e = let below : k < i = grind (arith, nat_tests) in ties x (get_or xs k d) Less (low k d (omega arith) below)
    by_side false e = let above : i ≤ k = grind (arith, nat_tests) in ties x (get_or xs k d) Greater (high k d above lt)

-- what a search by halves answers is whether the text stands there
pub searched : (xs : List (List ℕ)) (x : List ℕ) (r : Result ℕ ℕ) → rise text_below xs ≡ true → IsSearchInRange r (length xs) → IsBinarySearchResult (λ y. slice_cmp nat_cmp y x) xs r → is_ok r ≡ list_any (λ v. bytes_eq v x) xs
searched xs x (Ok i) up inside there = sym (list_any_at (λ v. bytes_eq v x) xs i x inside (ties x (get_or xs i x) Equal (there x)))
searched xs x (Err i) up inside there =
    let parts = there (IsNonDecreasingBy-from_all_adjacent (λ y. ordering_index (order y x)) xs (λ k d lt. rises (get_or xs k d) (get_or xs (k + 1) d) x (below_is (get_or xs k d) (get_or xs (k + 1) d) (rise_at text_below xs k d up lt)))) in
    sym (list_any_none (λ v. bytes_eq v x) xs (λ k d lt. apart xs x i k d lt parts.0 parts.1))
