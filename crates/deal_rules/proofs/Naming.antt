-- A look in a list that is in order finds an item exactly where it is one of them.
use Rattle.std.proofs.Common.{◌≡◌, Ordering, Equal, Less, Greater, ℕ, ℤ, ◌<◌, ◌||◌, List, [], ◌∷◌, Bool, true, false, length, get_or, inl, inr, map, refl, sym, ◌∙◌, ap, arith}
use Rattle.std.specs.Prelude.{Result, Ok, Err, is_ok}
use Rattle.std.specs.Borrow.{Bor}
use Rattle.std.specs.Cmp.Lexicographic.{nat_list_cmp_total, slice_cmp}
use Rattle.std.specs.List.{HoldsAt, list_any}
use Rattle.std.specs.List.Sorted.{IsBinarySearchResult, IsNonDecreasingBy, IsPartitionPoint, IsPermutation, IsSearchInRange, IsSorted}
use Rattle.std.specs.Ordering.{int_cmp, int_eq, is_eq, nat_cmp, ordering_index}
use Rattle.std.specs.Str.{bytes_eq}
use Rattle.std.proofs.lemmas.Bool.{cases_lt}
use Rattle.std.proofs.lemmas.Cmp.{int_cmp_total}
use Rattle.std.proofs.lemmas.List.Folds.{list_any_at, list_any_none}
use Rattle.std.proofs.lemmas.List.Sorted.{list_any-IsPermutation, searchable_from_sorted}
use Rattle.std.proofs.lemmas.Map.Text.{is_eq-slice_cmp}
use Rattle.deal_rules.specs.Named.{AreOrderedNumbers}
use Rattle.deal_rules.specs.Rules.{has_text}

-- ---- items of any type, where the test says what the order says

abbrev IsTest : {X : Type 0} → (X → Ordering) → (X → Bool) → Type 0
IsTest {X} order test = (t : X) → test t ≡ is_eq (order t)

by_order : {X : Type 0} (order : X → Ordering) (test : X → Bool) → IsTest order test → (t : X) (o : Ordering) → order t ≡ o → test t ≡ is_eq o
by_order order test same t o e = same t ∙ ap is_eq e

found : {X : Type 0} (order : X → Ordering) (test : X → Bool) → IsTest order test → (xs : List X) (d : X) (k : ℕ) → k < length xs → HoldsAt (λ t. order t ≡ Equal) xs k → list_any test xs ≡ true
found order test same xs d k within at = list_any_at test xs k d within (by_order order test same (get_or xs k d) Equal (at d))

some_at : {X : Type 0} (order : X → Ordering) (test : X → Bool) → IsTest order test → (xs : List X) (k : ℕ) → k < length xs → HoldsAt (λ t. order t ≡ Equal) xs k → list_any test xs ≡ true
some_at order test same [] k within at = absurd (omega (arith, within))
some_at order test same (t ∷ xs) k within at = found order test same (t ∷ xs) t k within at

none_at : {X : Type 0} (order : X → Ordering) (test : X → Bool) → IsTest order test → (xs : List X) (i : ℕ) → IsPartitionPoint (λ t. order t ≡ Less) (λ t. order t ≡ Greater) xs i → list_any test xs ≡ false
none_at order test same xs i (below, above) = list_any_none test xs (λ k d within.
    elim (cases_lt k i) [
      | inl lt ↦ by_order order test same (get_or xs k d) Less (below k d (omega arith) lt)
      | inr le ↦ by_order order test same (get_or xs k d) Greater (above k d le within)
    ])

looked : {X : Type 0} (order : X → Ordering) (test : X → Bool) → IsTest order test → (xs : List X) (r : Result ℕ ℕ) → IsNonDecreasingBy (λ t. ordering_index (order t)) xs → IsSearchInRange r (length xs) → IsBinarySearchResult order xs r
    → is_ok r ≡ list_any test xs
looked order test same xs (Ok k) up within at = sym (some_at order test same xs k within at)
looked order test same xs (Err i) up within at = sym (none_at order test same xs i (at up))

-- ---- texts

abbrev compared : List ℕ → Bor (List ℕ) → Ordering
compared x t = slice_cmp nat_cmp t.now x

pub any_now : (p : List ℕ → Bool) (refs : List (Bor (List ℕ))) → list_any p (map (λ (t : Bor (List ℕ)). t.now) refs) ≡ list_any (λ (t : Bor (List ℕ)). p t.now) refs
any_now p [] = refl
any_now p (t ∷ refs) = ap (λ b. p t.now || b) (any_now p refs)

pub looked_up : (refs : List (Bor (List ℕ))) (x : List ℕ) (r : Result ℕ ℕ) → IsSorted (λ (s t : Bor (List ℕ)). slice_cmp nat_cmp s.now t.now) refs → IsSearchInRange r (length refs) → IsBinarySearchResult (compared x) refs r
    → is_ok r ≡ has_text (map (λ (t : Bor (List ℕ)). t.now) refs) x
looked_up refs x r up within at =
    looked (compared x) (λ t. bytes_eq t.now x) (λ t. sym (is_eq-slice_cmp t.now x)) refs r (searchable_from_sorted nat_list_cmp_total (λ (t : Bor (List ℕ)). t.now) refs x up) within at
    ∙ sym (any_now (λ t. bytes_eq t x) refs)

pub same_in_order : (refs sorted : List (Bor (List ℕ))) → IsPermutation refs sorted → (p : List ℕ → Bool) → list_any p (map (λ (t : Bor (List ℕ)). t.now) refs) ≡ list_any p (map (λ (t : Bor (List ℕ)). t.now) sorted)
same_in_order refs sorted moved p = any_now p refs ∙ list_any-IsPermutation (λ (t : Bor (List ℕ)). p t.now) refs sorted moved ∙ sym (any_now p sorted)

-- ---- numbers

pub number_looked_up : (numbers ordered : List ℤ) (n : ℤ) (r : Result ℕ ℕ) → AreOrderedNumbers numbers ordered → IsSearchInRange r (length ordered) → IsBinarySearchResult (λ m. int_cmp m n) ordered r
    → is_ok r ≡ list_any (λ m. int_eq m n) numbers
number_looked_up numbers ordered n r known within at =
    looked (λ m. int_cmp m n) (λ m. int_eq m n) (λ m. refl) ordered r (searchable_from_sorted int_cmp_total (λ (m : ℤ). m) ordered n known.sorted) within at
    ∙ sym (known.same (λ m. int_eq m n))

pub put_numbers_in_order : (numbers before sorted : List ℤ) → before ≡ numbers → IsPermutation before sorted → IsSorted int_cmp sorted → AreOrderedNumbers numbers sorted
put_numbers_in_order numbers before sorted e moved up = record {
  same = λ p. ap (list_any p) (sym e) ∙ list_any-IsPermutation p before sorted moved;
  sorted = up;
}
