-- When an expression in conjunctive form is true (Whang et al., "Indexing Boolean Expressions", VLDB 2009, section 5),
-- and what it scores.
use Rattle.std.specs.Prelude.{ℕ, ◌&&◌, not, nat_lt, nat_le, List, length, Bool, false, if◌then◌else◌, Option, position, sum_by}
use Rattle.std.specs.List.{list_all, list_any}
use Rattle.std.specs.Option.{option_map_or}
use Rattle.std.specs.Str.{bytes_eq}
use Rattle.target_expr.specs.declared.attr.Attr.{Attr}
use Rattle.target_expr.specs.declared.pred.Pred.{Pred}
use Rattle.target_expr.specs.Kept.{is_kept_pred}
use Rattle.target_expr.specs.Truth.{pred_holds, value_at}
use Rattle.cnf_match.specs.declared.weight.Weight.{Weight}

-- the clauses, each the list of its predicates, and what values of attributes weigh
pub record Cnf : Type 0 where
  pub clauses : List (List Pred)
  pub weights : List Weight

-- some predicate of the clause is true
abbrev pub clause_holds : List (Attr × List ℕ) → List Pred → Bool
clause_holds pairs c = list_any (pred_holds pairs) c

-- all clauses are
abbrev pub clauses_hold : List (Attr × List ℕ) → List (List Pred) → Bool
clauses_hold pairs cs = list_all (clause_holds pairs) cs

-- the attribute is present, with the value that is weighed
abbrev pub is_weighed : List (Attr × List ℕ) → Weight → Bool
is_weighed pairs w = option_map_or (bytes_eq w.value) (value_at pairs w.attr) false

-- the sum of the weights of the values that attributes have
abbrev pub score_of : List (Attr × List ℕ) → List Weight → ℕ
score_of pairs ws = sum_by (λ (w : Weight). if is_weighed pairs w then w.weight else 0) ws

-- the place of the first clause that is false, from 0 on
abbrev pub first_false : List (Attr × List ℕ) → List (List Pred) → Option ℕ
first_false pairs cs = position (λ c. not (clause_holds pairs c)) cs

-- ---- what every expression is

-- 1 to 16 predicates, each within its limits
abbrev pub is_kept_clause : List Pred → Bool
is_kept_clause c = nat_lt 0 (length c) && nat_le (length c) 16 && list_all is_kept_pred c

-- at most 16 clauses
abbrev pub are_kept_clauses : List (List Pred) → Bool
are_kept_clauses cs = nat_le (length cs) 16 && list_all is_kept_clause cs

-- at most 64 weights of at most 1,000,000
abbrev pub are_kept_weights : List Weight → Bool
are_kept_weights ws = nat_le (length ws) 64 && list_all (λ (w : Weight). nat_le w.weight 1000000) ws
