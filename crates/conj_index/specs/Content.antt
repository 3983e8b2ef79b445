-- Which posting lists stand for a list of expressions (Whang et al. 2009, section 4). The list of
-- the conjunctions of size 0, and that "not in" is true of an absent attribute, are this exchange's
-- own choice.
use Rattle.std.specs.Prelude.{ℕ, ◌≡◌, ◌+◌, ◌==◌, ◌&&◌, max, List, [], ◌∷◌, ◌++◌, map, filter, find, length, slice_get, Bool, false, if◌then◌else◌, Option, Some, option_map}
use Rattle.std.specs.List.{list_any, enumerate_from, filter_map, flat_map, IsDistinct}
use Rattle.std.specs.Str.{bytes_eq}
use Rattle.indexmap.specs.IndexMap.{keys}
use Rattle.postings.specs.declared.entry.Entry.{Entry}
use Rattle.target_expr.specs.declared.pred.Pred.{Pred}
use Rattle.target_expr.specs.Pairs.{size_of}
use Rattle.target_expr.specs.Truth.{same_attr}
use Rattle.conj_index.specs.declared.key.Key.{Key}
use Rattle.conj_index.specs.declared.part.Part.{Part}
use Rattle.conj_index.specs.declared.index.Index.{Index}
use Rattle.conj_index.specs.Campaigns.{AreKept, Campaigns, DoRise}

-- a conjunction, and the number of the campaign whose expression has it
pub record Listed : Type 0 where
  pub owner : ℕ
  pub preds : List Pred

abbrev pub with_owner : ℕ × List (List Pred) → List Listed
with_owner p = map (λ c. record { owner = p.0; preds = c }) p.1

-- the conjunctions of the campaigns, numbered from 0 in this order: the number is the id
abbrev pub conjunctions_of : Campaigns → List Listed
conjunctions_of added = flat_map with_owner added

-- the predicate speaks of the key's attribute, and lists its value
abbrev pub names : Key → Pred → Bool
names key p = same_attr p.attr key.attr && list_any (λ v. bytes_eq v key.value) p.values

-- the entry of a conjunction in the posting list of the key, where it names the key
abbrev pub entry_under : Key → ℕ × Listed → Option Entry
entry_under key q = option_map (λ (p : Pred). record { id = q.0; negated = p.negated }) (find (names key) q.1.preds)

-- those with so many "in" predicates
abbrev pub of_size : ℕ → List (ℕ × Listed) → List (ℕ × Listed)
of_size k cs = filter (λ (q : ℕ × Listed). size_of q.1.preds == k) cs

-- the posting list of the key among the conjunctions of size k
unfoldable pub entries_of : ℕ → List Listed → Key → List Entry
entries_of k cs key = filter_map (entry_under key) (of_size k (enumerate_from 0 cs))

-- the zero list: a plain entry for each conjunction of size 0
unfoldable pub zero_entries : List Listed → List Entry
zero_entries cs = map (λ (q : ℕ × Listed). record { id = q.0; negated = false }) (of_size 0 (enumerate_from 0 cs))

-- a conjunction of size k names the key
unfoldable pub is_named : ℕ → List Listed → Key → Bool
is_named k cs key = list_any (λ (c : Listed). (size_of c.preds == k) && list_any (names key) c.preds) cs

-- part 0 has the zero list besides
abbrev pub zero_lists : ℕ → List Listed → List (List Entry)
zero_lists k cs = if k == 0 then zero_entries cs ∷ [] else []

-- the two keys are one
abbrev pub same_key : Key → Key → Bool
same_key a b = same_attr a.attr b.attr && bytes_eq a.value b.value

-- part k of an index of these conjunctions: a key for each attribute and value that one of size k
-- names, and at the key's place its posting list
pub record IsPartOf (k : ℕ) (cs : List Listed) (part : Part) : Type 0 where
  pub unique : IsDistinct same_key (keys part.keys)
  pub named : (key : Key) → list_any (same_key key) (keys part.keys) ≡ is_named k cs key
  pub lists : part.lists ≡ map (entries_of k cs) (keys part.keys) ++ zero_lists k cs

-- the greatest size, or 0 where there is no conjunction
abbrev pub greatest_size : List Listed → ℕ
greatest_size [] = 0
greatest_size (c ∷ cs) = max (size_of c.preds) (greatest_size cs)

-- the index stands for these campaigns
pub record IsIndexOf (added : Campaigns) (index : Index) : Type 0 where
  pub rising : DoRise added
  pub kept : AreKept added
  pub owners : index.owners ≡ map (λ (c : Listed). c.owner) (conjunctions_of added)
  pub sizes : length index.parts ≡ greatest_size (conjunctions_of added) + 1
  pub parts : (k : ℕ) (part : Part) → slice_get index.parts k ≡ Some part → IsPartOf k (conjunctions_of added) part
