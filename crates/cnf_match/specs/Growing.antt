-- Lists of keys while entries are added, which the crate's private clauses cite.
use Rattle.std.specs.Prelude.{ℕ, zero, suc, ◌≡◌, List, [], ◌∷◌, ◌++◌, map, if◌then◌else◌, Option, Some, None}
use Rattle.std.specs.List.{list_any, enumerate_from, filter_map, flat_map, IsDistinct}
use Rattle.indexmap.specs.IndexMap.{keys}
use Rattle.target_expr.specs.declared.pred.Pred.{Pred}
use Rattle.cnf_match.specs.declared.growing.Growing.{Growing}
use Rattle.cnf_match.specs.declared.index.Entry.{Entry}
use Rattle.cnf_match.specs.declared.index.Key.{Key}
use Rattle.cnf_match.specs.Conjunctive.{Cnf}
use Rattle.cnf_match.specs.Content.{same_key}

-- ---- what is entered: a key and an entry for each value of each predicate, in order

-- for a value of the predicate, of the clause at place i of the expression at place n
abbrev pub value_pair : ℕ → ℕ → Pred → List ℕ → Key × Entry
value_pair n i p v = (record { attr = p.attr; value = v }, record { expression = n; clause = i; negated = p.negated })

abbrev pub pred_pairs : ℕ → ℕ → Pred → List (Key × Entry)
pred_pairs n i p = map (value_pair n i p) p.values

abbrev pub clause_pairs : ℕ → ℕ × List Pred → List (Key × Entry)
clause_pairs n (i, c) = flat_map (pred_pairs n i) c

abbrev pub clauses_pairs : ℕ → List (List Pred) → List (Key × Entry)
clauses_pairs n cs = flat_map (clause_pairs n) (enumerate_from 0 cs)

abbrev pub expression_pairs : ℕ × Cnf → List (Key × Entry)
expression_pairs (n, e) = clauses_pairs n e.clauses

abbrev pub pairs_of : List Cnf → List (Key × Entry)
pairs_of es = flat_map expression_pairs (enumerate_from 0 es)

-- ---- what the lists are behind them

abbrev pub item_under : {E : Type 0} → Key → Key × E → Option E
item_under key p = if same_key p.0 key then Some p.1 else None

-- the list of the key, by the pairs
abbrev pub items_under : {E : Type 0} → List (Key × E) → Key → List E
items_under ps key = filter_map (item_under key) ps

abbrev pub lists_of : Growing → List (List Entry)
lists_of growing = map (λ v. v.items) growing.lists.items

-- after these pairs
pub record IsGrown (ps : List (Key × Entry)) (growing : Growing) : Type 0 where
  pub unique : IsDistinct same_key (keys growing.keys)
  pub named : (key : Key) → list_any (same_key key) (keys growing.keys) ≡ list_any (λ (p : Key × Entry). same_key p.0 key) ps
  pub lists : lists_of growing ≡ map (items_under ps) (keys growing.keys)

-- they come behind whatever was entered before
abbrev pub Enters : List (Key × Entry) → Growing → Growing → Type 0
Enters ps old new = (before : List (Key × Entry)) → IsGrown before old → IsGrown (before ++ ps) new

-- the keys after the key is added, where it is new
abbrev pub with_key : List Key → Key → List Key
with_key [] key = key ∷ []
with_key (k ∷ ks) key = if same_key key k then k ∷ ks else k ∷ with_key ks key

-- the lists after the item is appended to the one at the place, or is a list of its own past the end
abbrev pub with_item : {E : Type 0} → List (List E) → ℕ → E → List (List E)
with_item [] n e = (e ∷ []) ∷ []
with_item (l ∷ ls) zero e = (l ++ e ∷ []) ∷ ls
with_item (l ∷ ls) (suc n) e = l ∷ with_item ls n e
