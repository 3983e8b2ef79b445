-- Posting lists while pairs are entered, which the crate's private clauses cite.
use Rattle.std.specs.Prelude.{ℕ, zero, suc, ◌≡◌, ◌==◌, ◌&&◌, ◌+◌, max, List, [], ◌∷◌, ◌++◌, map, if◌then◌else◌, Bool, false, Option, Some, None, slice_get}
use Rattle.std.specs.List.{list_any, enumerate_from, filter_map, IsDistinct}
use Rattle.indexmap.specs.IndexMap.{keys}
use Rattle.postings.specs.declared.entry.Entry.{Entry}
use Rattle.target_expr.specs.declared.pred.Pair.{Pair}
use Rattle.conj_index.specs.declared.key.Key.{Key}
use Rattle.conj_index.specs.declared.growing.Growing.{Growing}
use Rattle.conj_index.specs.declared.part.Part.{Part}
use Rattle.conj_index.specs.Content.{Listed, entries_of, is_named, same_key, zero_lists}

abbrev pub pair_key : Pair → Key
pair_key p = record { attr = p.attr; value = p.value }

-- the pair is of a conjunction of size k, and it is the key
abbrev pub is_of : ℕ → Key → Pair → Bool
is_of k key p = (p.size == k) && same_key (pair_key p) key

abbrev pub entry_of : Pair → Entry
entry_of p = record { id = p.conjunction; negated = p.negated }

abbrev pub kept_entry : ℕ → Key → Pair → Option Entry
kept_entry k key p = if is_of k key p then Some (entry_of p) else None

-- the posting list of the key, by the pairs
abbrev pub pair_entries : ℕ → List Pair → Key → List Entry
pair_entries k ps key = filter_map (kept_entry k key) ps

abbrev pub lists_of : Growing → List (List Entry)
lists_of part = map (λ v. v.items) part.lists.items

-- part k, after these pairs
pub record IsGrown (k : ℕ) (ps : List Pair) (part : Growing) : Type 0 where
  pub unique : IsDistinct same_key (keys part.keys)
  pub named : (key : Key) → list_any (same_key key) (keys part.keys) ≡ list_any (is_of k key) ps
  pub lists : lists_of part ≡ map (pair_entries k ps) (keys part.keys)

-- the parts, after these pairs
abbrev pub AreGrown : List Pair → List Growing → Type 0
AreGrown ps parts = (k : ℕ) (part : Growing) → slice_get parts k ≡ Some part → IsGrown k ps part

-- the keys after the key is added, where it is new
abbrev pub with_key : List Key → Key → List Key
with_key [] key = key ∷ []
with_key (k ∷ ks) key = if same_key key k then k ∷ ks else k ∷ with_key ks key

-- the lists after the entry is appended to the one at the place, or is a list of its own past the end
abbrev pub with_entry : List (List Entry) → ℕ → Entry → List (List Entry)
with_entry [] n e = (e ∷ []) ∷ []
with_entry (l ∷ ls) zero e = (l ++ e ∷ []) ∷ ls
with_entry (l ∷ ls) (suc n) e = l ∷ with_entry ls n e

-- the pair with the conjunction's number counted from `first` on
abbrev pub shift : ℕ → Pair → Pair
shift first p = record p { conjunction = first + p.conjunction }

abbrev pub greatest : List ℕ → ℕ
greatest [] = 0
greatest (n ∷ ns) = max n (greatest ns)

-- a plain entry for each conjunction of size 0, by the sizes
abbrev pub zero_entry : ℕ × ℕ → Option Entry
zero_entry q = if q.1 == 0 then Some (record { id = q.0; negated = false }) else None

abbrev pub zero_of : List ℕ → List Entry
zero_of sizes = filter_map zero_entry (enumerate_from 0 sizes)

-- part k, with the zero list where it is part 0
pub record IsFull (k : ℕ) (cs : List Listed) (part : Growing) : Type 0 where
  pub unique : IsDistinct same_key (keys part.keys)
  pub named : (key : Key) → list_any (same_key key) (keys part.keys) ≡ is_named k cs key
  pub lists : lists_of part ≡ map (entries_of k cs) (keys part.keys) ++ zero_lists k cs

abbrev pub AreFull : List Listed → List Growing → Type 0
AreFull cs parts = (k : ℕ) (part : Growing) → slice_get parts k ≡ Some part → IsFull k cs part

-- the part has the same keys and lists, and the zero list behind them where it is part 0
abbrev pub HasZeroList : ℕ → List Entry → Growing → Growing → Type 0
HasZeroList k zeros old new = (new.keys ≡ old.keys) × (lists_of new ≡ lists_of old ++ (if k == 0 then zeros ∷ [] else []))

-- the part with posting lists of its entries
abbrev pub finish : Growing → Part
finish part = record { keys = part.keys; lists = lists_of part }
