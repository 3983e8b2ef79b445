-- What is found for an assignment, and the greatest number of entries that are read for it.
use Rattle.std.specs.Prelude.{ℕ, ◌+◌, ◌*◌, List, length, sum_by, position, slice_get, if◌then◌else◌, Option, Some, None, option_and_then}
use Rattle.std.specs.List.{enumerate_from, filter_map}
use Rattle.indexmap.specs.IndexMap.{keys}
use Rattle.target_expr.specs.declared.attr.Attr.{Attr}
use Rattle.cnf_match.specs.declared.index.CnfIndex.{CnfIndex}
use Rattle.cnf_match.specs.declared.index.Entry.{Entry}
use Rattle.cnf_match.specs.declared.index.Key.{Key}
use Rattle.cnf_match.specs.Conjunctive.{Cnf, clauses_hold}
use Rattle.cnf_match.specs.Content.{same_key}

-- the number of an expression that is true under the assignment, from the number of the first
abbrev pub true_number : List (Attr × List ℕ) → ℕ × Cnf → Option ℕ
true_number a (n, e) = if clauses_hold a e.clauses then Some n else None

-- the numbers of the expressions that are true under the assignment, counted from 1
abbrev pub true_under : List (Attr × List ℕ) → List Cnf → List ℕ
true_under a es = filter_map (true_number a) (enumerate_from 1 es)

abbrev pub key_of : Attr × List ℕ → Key
key_of q = record { attr = q.0; value = q.1 }

-- the list of the key, where the index has one
abbrev pub list_at : CnfIndex → Key → Option (List Entry)
list_at index key = option_and_then (slice_get index.lists) (position (same_key key) (keys index.keys))

-- the lists of the assignment's pairs
abbrev pub found_lists : List (Attr × List ℕ) → CnfIndex → List (List Entry)
found_lists a index = filter_map (λ (q : Attr × List ℕ). list_at index (key_of q)) a

-- twice the entries of these and of the zero list, and one for each list
abbrev pub find_cost : CnfIndex → List (Attr × List ℕ) → ℕ
find_cost index a = 2 * (sum_by length (found_lists a index) + length index.zeros) + (length (found_lists a index) + 1)
