-- What a find costs at most, by the campaigns alone.
use Rattle.std.specs.Prelude.{ℕ, ◌+◌, max, min, List, ◌++◌, length, sum_by, Option, Some, None, if◌then◌else◌}
use Rattle.std.specs.List.{filter_map, range_with_len}
use Rattle.postings.specs.declared.entry.Entry.{Entry}
use Rattle.conj_match.specs.Matching.{cost_of}
use Rattle.target_expr.specs.declared.attr.Attr.{Attr}
use Rattle.conj_index.specs.Campaigns.{Campaigns}
use Rattle.conj_index.specs.Content.{Listed, conjunctions_of, entries_of, greatest_size, is_named, zero_lists}
use Rattle.conj_index.specs.Find.{key_of}

-- the posting list of the pair among the conjunctions of size k, where one of them names it
abbrev pub list_under : ℕ → List Listed → Attr × List ℕ → Option (List Entry)
list_under k cs q = if is_named k cs (key_of q) then Some (entries_of k cs (key_of q)) else None

-- the lists of the assignment's pairs, and of size 0 the zero list
abbrev pub lists_under : List (Attr × List ℕ) → List Listed → ℕ → List (List Entry)
lists_under a cs k = filter_map (list_under k cs) a ++ zero_lists k cs

-- size 0 is matched as size 1
abbrev pub size_cost : List (Attr × List ℕ) → List Listed → ℕ → ℕ
size_cost a cs k = cost_of (lists_under a cs k) (max k 1)

-- the sizes go from 0 to the smaller of the assignment's length and the greatest size
abbrev pub campaigns_cost : List (Attr × List ℕ) → Campaigns → ℕ
campaigns_cost a added = sum_by (size_cost a (conjunctions_of added)) (range_with_len 0 (min (length a) (greatest_size (conjunctions_of added)) + 1))
