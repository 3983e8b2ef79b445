-- The pairs of an attribute and a value that an expression names, and the sizes of its conjunctions
-- (Whang et al. 2009, section 4), from which an index is built; and how much an expression holds.
use Rattle.std.specs.Prelude.{ℕ, not, List, length, map, count_by, sum_by}
use Rattle.std.specs.List.{flat_map, enumerate_from}
use Rattle.target_expr.specs.declared.pred.Pred.{Pred}
use Rattle.target_expr.specs.declared.pred.Pair.{Pair}

-- how many "in" predicates the conjunction has
abbrev pub size_of : List Pred → ℕ
size_of c = count_by (λ (p : Pred). not p.negated) c

abbrev pub sizes_of : List (List Pred) → List ℕ
sizes_of e = map size_of e

-- the predicate p, of the conjunction at place n, whose size is k, with these values
abbrev pub pairs_by : ℕ → ℕ → Pred → List (List ℕ) → List Pair
pairs_by n k p values = map (λ v. record { conjunction = n; size = k; attr = p.attr; negated = p.negated; value = v }) values

abbrev pub pred_pairs : ℕ → ℕ → Pred → List Pair
pred_pairs n k p = pairs_by n k p p.values

abbrev pub conjunction_pairs : ℕ × List Pred → List Pair
conjunction_pairs (n, c) = flat_map (pred_pairs n (size_of c)) c

abbrev pub pairs_of : List (List Pred) → List Pair
pairs_of e = flat_map conjunction_pairs (enumerate_from 0 e)

-- how many values a conjunction lists, and how many bytes these have
abbrev pub values_in : List Pred → ℕ
values_in c = sum_by (λ (p : Pred). length p.values) c

abbrev pub bytes_in : List Pred → ℕ
bytes_in c = sum_by (λ (p : Pred). sum_by length p.values) c

-- the same of an expression
abbrev pub values_of : List (List Pred) → ℕ
values_of e = sum_by values_in e

abbrev pub text_bytes_of : List (List Pred) → ℕ
text_bytes_of e = sum_by bytes_in e
