-- What is found for an assignment, and the greatest number of entries that are read for it.
use Rattle.std.specs.Prelude.{ℕ, ◌+◌, ◌-◌, ◌==◌, ◌&&◌, max, nat_lt, List, [], ◌++◌, map, filter, length, position, take, sum_by, if◌then◌else◌, Option, Some, None, option_and_then}
use Rattle.std.specs.List.{cons_option, enumerate_from, filter_map}
use Rattle.indexmap.specs.IndexMap.{keys}
use Rattle.postings.specs.declared.entry.Entry.{Entry}
use Rattle.conj_match.specs.Matching.{cost_of, lists_at}
use Rattle.target_expr.specs.declared.attr.Attr.{Attr}
use Rattle.target_expr.specs.declared.pred.Pred.{Pred}
use Rattle.target_expr.specs.Truth.{holds}
use Rattle.conj_index.specs.declared.key.Key.{Key}
use Rattle.conj_index.specs.declared.part.Part.{Part}
use Rattle.conj_index.specs.declared.index.Index.{Index}
use Rattle.conj_index.specs.Campaigns.{Campaigns}
use Rattle.conj_index.specs.Content.{same_key}

-- the numbers of the campaigns whose expression is true under the assignment
abbrev pub true_under : List (Attr × List ℕ) → Campaigns → List ℕ
true_under a added = map (λ (p : ℕ × List (List Pred)). p.0) (filter (λ (p : ℕ × List (List Pred)). holds a p.1) added)

abbrev pub key_of : Attr × List ℕ → Key
key_of q = record { attr = q.0; value = q.1 }

-- how many of part k's lists are those of keys: all but the zero list
abbrev pub key_lists : ℕ → Part → ℕ
key_lists k part = length part.lists - (if k == 0 then 1 else 0)

-- the place of the key's list, where the part has one
abbrev pub key_place : ℕ → Part → Key → Option ℕ
key_place k part key = option_and_then (λ n. if nat_lt n (key_lists k part) then Some n else None) (position (same_key key) (keys part.keys))

-- the place of the zero list, which part 0 has
abbrev pub zero_place : ℕ → Part → Option ℕ
zero_place k part = if (k == 0) && nat_lt 0 (length part.lists) then Some (length part.lists - 1) else None

-- the places of the lists of these keys, and of the zero list
abbrev pub places_of : List Key → ℕ → Part → List ℕ
places_of looked k part = filter_map (key_place k part) looked ++ cons_option (zero_place k part) []

-- the lists of a match in part k: those of the assignment's pairs, and the zero list
abbrev pub found_lists : List (Attr × List ℕ) → ℕ → Part → List (List Entry)
found_lists a k part = lists_at part.lists (places_of (map key_of a) k part)

-- size 0 is matched as size 1
abbrev pub match_cost : List (Attr × List ℕ) → ℕ × Part → ℕ
match_cost a p = cost_of (found_lists a p.0 p.1) (max p.0 1)

-- the parts that are looked at: no size is above the assignment's length
abbrev pub looked_at : List (Attr × List ℕ) → Index → List (ℕ × Part)
looked_at a index = enumerate_from 0 (take (length a + 1) index.parts)

abbrev pub find_cost : Index → List (Attr × List ℕ) → ℕ
find_cost index a = sum_by (match_cost a) (looked_at a index)
