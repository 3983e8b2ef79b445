-- Which lists stand for a list of expressions (Whang et al. 2009, section 5). The list of expressions that need no
-- value of any attribute, and that "not in" is true of an absent attribute, are this exchange's own choice.
use Rattle.std.specs.Prelude.{ℕ, ◌≡◌, ◌≤◌, ◌&&◌, List, ◌++◌, IsTrue, All, map, length, take, replicate, count_by, Bool, if◌then◌else◌, Option, Some, None}
use Rattle.std.specs.List.{list_all, list_any, enumerate_from, filter_map, flat_map, IsDistinct}
use Rattle.std.specs.Str.{bytes_eq}
use Rattle.indexmap.specs.IndexMap.{keys}
use Rattle.target_expr.specs.declared.pred.Pred.{Pred}
use Rattle.target_expr.specs.Truth.{same_attr}
use Rattle.cnf_match.specs.declared.index.CnfIndex.{CnfIndex}
use Rattle.cnf_match.specs.declared.index.Entry.{Entry}
use Rattle.cnf_match.specs.declared.index.Key.{Key}
use Rattle.cnf_match.specs.Conjunctive.{Cnf, are_kept_clauses}

-- the predicate speaks of the key's attribute, and lists its value
abbrev pub names : Key → Pred → Bool
names key p = same_attr p.attr key.attr && list_any (λ v. bytes_eq v key.value) p.values

-- the entry of a predicate of the clause at place i of the expression at place n, where it names the key
abbrev pub entry_under : Key → ℕ → ℕ → Pred → Option Entry
entry_under key n i p = if names key p then Some (record { expression = n; clause = i; negated = p.negated }) else None

abbrev pub clause_entries : Key → ℕ → ℕ × List Pred → List Entry
clause_entries key n (i, c) = filter_map (entry_under key n i) c

abbrev pub expression_entries : Key → ℕ × Cnf → List Entry
expression_entries key (n, e) = flat_map (clause_entries key n) (enumerate_from 0 e.clauses)

-- the list of the key: an entry for each predicate that names it
unfoldable pub entries_of : List Cnf → Key → List Entry
entries_of es key = flat_map (expression_entries key) (enumerate_from 0 es)

-- some predicate of the expression names the key
abbrev pub is_named_in : Key → Cnf → Bool
is_named_in key e = list_any (list_any (names key)) e.clauses

unfoldable pub is_named : List Cnf → Key → Bool
is_named es key = list_any (is_named_in key) es

-- the two keys are one
abbrev pub same_key : Key → Key → Bool
same_key a b = same_attr a.attr b.attr && bytes_eq a.value b.value

-- each clause of the expression has a predicate that is negated
abbrev pub needs_none : Cnf → Bool
needs_none e = list_all (list_any (λ (p : Pred). p.negated)) e.clauses

-- the zero list: the places of these expressions
abbrev pub zero_place : ℕ × Cnf → Option ℕ
zero_place (n, e) = if needs_none e then Some n else None

unfoldable pub zero_list : List Cnf → List ℕ
zero_list es = filter_map zero_place (enumerate_from 0 es)

-- how many predicates of the clause are negated
abbrev pub negated_in : List Pred → ℕ
negated_in c = count_by (λ (p : Pred). p.negated) c

-- the same of each clause of the expression, with 1 in the places up to the sixteenth that have no clause
abbrev pub negated_of : Cnf → List ℕ
negated_of e = take 16 (map negated_in e.clauses ++ replicate 16 1)

unfoldable pub all_negated : List Cnf → List ℕ
all_negated es = flat_map negated_of es

-- each expression is within its limits
abbrev pub AreKept : List Cnf → Type 0
AreKept es = All (λ (e : Cnf). IsTrue (are_kept_clauses e.clauses)) es

-- The index stands for these expressions: a key for each attribute and value that one names, and at the key's place
-- its list; the zero list; and how many predicates of each clause are negated.
pub record IsIndexOf (es : List Cnf) (index : CnfIndex) : Type 0 where
  pub kept : AreKept es
  pub few : length es ≤ 4096
  pub unique : IsDistinct same_key (keys index.keys)
  pub named : (key : Key) → list_any (same_key key) (keys index.keys) ≡ is_named es key
  pub lists : index.lists ≡ map (entries_of es) (keys index.keys)
  pub zeros : index.zeros ≡ zero_list es
  pub negated : index.negated ≡ all_negated es
