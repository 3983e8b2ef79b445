-- Which conjunctions match (Whang et al. 2009, section 4): those that no list excludes, and that at
-- least as many lists ask for as the conjunction has predicates.
use Rattle.std.specs.Prelude.{ℕ, zero, suc, ◌+◌, ◌*◌, ◌/◌, ◌<◌, ◌&&◌, ◌==◌, ◌↔◌, max, min, nat_le, nat_lt, not, List, [], ◌∷◌, Bool, if◌then◌else◌, count_by, get_or, length, map, slice_index, sum_by, Contains, IsTrue}
use Rattle.std.specs.List.{list_any}
use Rattle.postings.specs.declared.entry.Entry.{Entry}

-- the lists at the chosen places
abbrev pub lists_at : List (List Entry) → List ℕ → List (List Entry)
lists_at lists chosen = map (λ n. get_or lists n []) chosen

-- whether the list has a negated entry of the conjunction
abbrev pub has_negated : ℕ → List Entry → Bool
has_negated id es = list_any (λ (e : Entry). (e.id == id) && e.negated) es

-- whether the list has another entry of the conjunction: it has at most one, as its entries rise
abbrev pub has_plain : ℕ → List Entry → Bool
has_plain id es = list_any (λ (e : Entry). (e.id == id) && not e.negated) es

-- no list has a negated entry of the conjunction, and at least `k` have another
abbrev pub is_match : List (List Entry) → ℕ → ℕ → Bool
is_match lists k id = not (list_any (has_negated id) lists) && nat_le k (count_by (has_plain id) lists)

-- the ids rise, and are exactly those that match
pub record IsAnswer (lists : List (List Entry)) (k : ℕ) (ids : List ℕ) : Type 0 where
  pub rising : (i : ℕ) → i + 1 < length ids → slice_index ids i < slice_index ids (i + 1)
  pub exact : (id : ℕ) → Contains ids id ↔ IsTrue (is_match lists k id)

-- how often a number can be halved until it is 0, in at most so many turns
abbrev pub halvings : ℕ → ℕ → ℕ
halvings zero n = 0
halvings (suc turns) zero = 0
halvings (suc turns) (suc n) = suc (halvings turns (suc n / 2))

-- the number of binary digits
unfoldable pub digits : ℕ → ℕ
digits n = halvings n n

-- the number of entries of the shortest list
abbrev pub shortest : List (List Entry) → ℕ
shortest [] = 0
shortest (es ∷ []) = length es
shortest (es ∷ other ∷ lists) = min (length es) (shortest (other ∷ lists))

-- the number of entries of the longest list
abbrev pub longest : List (List Entry) → ℕ
longest [] = 0
longest (es ∷ lists) = max (length es) (longest lists)

-- twice the entries of the lists, and one for each list
abbrev pub reading_cost : List (List Entry) → ℕ
reading_cost lists = 2 * sum_by length lists + length lists

-- one for each list, and for each entry of the shortest list, and one more, a skip in each list
abbrev pub skipping_cost : List (List Entry) → ℕ → ℕ
skipping_cost lists k = length lists + 2 * k * (shortest lists + 1) * (2 * digits (longest lists) + 2)

-- the greatest number of entries that a match reads: none where fewer than `k` lists are chosen; where
-- as many are chosen, the smaller of the two bounds; else that of reading
abbrev pub cost_of : List (List Entry) → ℕ → ℕ
cost_of lists k =
    if nat_lt (length lists) k then 0
    else if length lists == k then min (reading_cost lists) (skipping_cost lists k)
    else reading_cost lists
