-- One part more in a search.
use Rattle.std.proofs.Common.{◌≡◌, ℕ, zero, suc, ◌+◌, ◌<◌, ◌≤◌, ◌==◌, ◌||◌, List, [], ◌∷◌, length, get_or, slice_get, take, Bool, true, false, not, Some, map, sym, ◌∙◌, ap, arith, sum_by, eqb}
use Rattle.std.specs.List.{AllByRecursion, IsDistinct, list_any}
use Rattle.std.proofs.lemmas.Bool.{and_parts, eqb-true, not-true, or_parts}
use Rattle.std.proofs.lemmas.Bool.Decides.{nat_tests}
use Rattle.std.proofs.lemmas.List.{length-map, take_all, take_more}
use Rattle.std.proofs.lemmas.List.FromFn.{get_or-enumerate_from, length-enumerate_from}
use Rattle.std.proofs.lemmas.List.Sums.{sum_by-append, sum_by-cons, sum_by-take-le}
use Rattle.std.proofs.lemmas.Map.Steps.{length-le_from_distinct_below}
use Rattle.target_expr.proofs.Attributes.{in_table}
use Rattle.target_expr.specs.declared.attr.Attr.{Attr}
use Rattle.target_expr.specs.Attributes.{number_of}
use Rattle.target_expr.specs.Truth.{are_single, same_attr}
use Rattle.conj_index.specs.declared.part.Part.{Part}
use Rattle.conj_index.specs.declared.index.Index.{Index}
use Rattle.conj_index.specs.Find.{looked_at, match_cost}
use Rattle.conj_index.proofs.Members.{any_has, mapped_has}

abbrev Pairs : Type 0
Pairs = List (Attr × List ℕ)

pub at_place : {X : Type 0} (xs : List X) (n : ℕ) (x : X) → n < length xs → x ≡ get_or xs n x → slice_get xs n ≡ Some x
at_place [] n x h e = absurd (omega arith)
at_place (y ∷ xs) zero x h e = ap Some (sym e)
at_place (y ∷ xs) (suc n) x h e = at_place xs n x (omega arith) e

-- ---- what it costs

pub cost_below : (a : Pairs) (index : Index) (i : ℕ) → sum_by (match_cost a) (take i (looked_at a index)) ≤ sum_by (match_cost a) (looked_at a index)
cost_below a index i = sum_by-take-le (match_cost a) (looked_at a index) i

pub cost_step : (a : Pairs) (index : Index) (i : ℕ) (part : Part) → i < length (take (length a + 1) index.parts) → part ≡ get_or (take (length a + 1) index.parts) i part
    → sum_by (match_cost a) (take (i + 1) (looked_at a index)) ≡ sum_by (match_cost a) (take i (looked_at a index)) + match_cost a (i, part)
cost_step a index i part h is =
    let parts = take (length a + 1) index.parts in
    let within : i < length (looked_at a index) = omega (arith, h, length-enumerate_from 0 parts) in
    let zeroth : 0 + i ≡ i = omega arith in
    let item : get_or (looked_at a index) i (i, part) ≡ (i, part) = get_or-enumerate_from 0 parts i (i, part) h ∙ ap (λ (n : ℕ). (n, get_or parts i part)) zeroth ∙ ap (λ (p : Part). (i, p)) (sym is) in
    ap (sum_by (match_cost a)) (take_more (looked_at a index) i (i, part) within)
    ∙ sum_by-append (match_cost a) (take i (looked_at a index)) (get_or (looked_at a index) i (i, part) ∷ [])
    ∙ ap (λ (n : ℕ). sum_by (match_cost a) (take i (looked_at a index)) + n) (one (get_or (looked_at a index) i (i, part)) ∙ ap (match_cost a) item)
  where
    one : (p : ℕ × Part) → sum_by (match_cost a) (p ∷ []) ≡ match_cost a p
    one p = omega (arith, sum_by-cons (match_cost a) p [])

pub cost_whole : (a : Pairs) (index : Index) (i : ℕ) → length (take (length a + 1) index.parts) ≤ i → take i (looked_at a index) ≡ looked_at a index
cost_whole a index i h = take_all i (looked_at a index) (omega (arith, h, length-enumerate_from 0 (take (length a + 1) index.parts)))

-- ---- an assignment has few pairs

abbrev numbers_in : Pairs → List ℕ
numbers_in a = map (λ (q : Attr × List ℕ). number_of q.0) a

turned : (m n : ℕ) (b : Bool) → ((n == m) || b) ≡ false → (eqb m n ≡ false) × (b ≡ false)
turned m n b h = (grind (arith, nat_tests, h), (or_parts (n == m) b h).1)

none_equal : (t : Attr) (a : Pairs) → list_any (λ (r : Attr × List ℕ). same_attr r.0 t) a ≡ false → AllByRecursion (λ (m : ℕ). eqb (number_of t) m ≡ false) (numbers_in a)
none_equal t [] h = tt
none_equal t (q ∷ a) h =
    let parts = turned (number_of t) (number_of q.0) (list_any (λ (r : Attr × List ℕ). same_attr r.0 t) a) h in
    (parts.0, none_equal t a parts.1)

distinct_numbers : (a : Pairs) → are_single a ≡ true → IsDistinct eqb (numbers_in a)
unfolding IsDistinct
distinct_numbers [] single = tt
distinct_numbers (q ∷ a) single =
    let parts = and_parts (not (list_any (λ (r : Attr × List ℕ). same_attr r.0 q.0) a)) (are_single a) single in
    (none_equal q.0 a (not-true (list_any (λ (r : Attr × List ℕ). same_attr r.0 q.0) a) parts.0), distinct_numbers a parts.1)

pub few_pairs : (a : Pairs) → are_single a ≡ true → length a ≤ 256
few_pairs a single =
    let long : length (numbers_in a) ≤ 256 = length-le_from_distinct_below (numbers_in a) 256 (distinct_numbers a single)
    (λ n h.
    let (m, has, same) = any_has (eqb n) (numbers_in a) h in
    let (q, in_a, is) = mapped_has (λ (r : Attr × List ℕ). number_of r.0) a m has in
    omega (arith, eqb-true n m same, is, (in_table q.0).fits)) in
    omega (arith, long, length-map a (λ (q : Attr × List ℕ). number_of q.0))

length_taken : {X : Type 0} (n : ℕ) (xs : List X) → length (take n xs) ≤ n
length_taken zero xs = omega arith
length_taken (suc n) [] = omega arith
length_taken (suc n) (x ∷ xs) = omega (arith, length_taken n xs)

pub few_parts : (a : Pairs) (parts : List Part) → are_single a ≡ true → length (take (length a + 1) parts) ≤ 257
few_parts a parts single = omega (arith, length_taken (length a + 1) parts, few_pairs a single)
