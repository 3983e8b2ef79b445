-- When an expression is true (Whang et al., "Indexing Boolean Expressions", VLDB 2009, section 2):
-- disjunctions of conjunctions of "in" and "not in". That "not in" is true of an attribute that is
-- absent is this exchange's own choice.
use Rattle.std.specs.Prelude.{ℕ, ◌+◌, ◌==◌, ◌&&◌, not, min, List, [], ◌∷◌, length, Bool, true, false, if◌then◌else◌, Option, option_map, find}
use Rattle.std.specs.List.{list_all, list_any, position_or_len}
use Rattle.std.specs.Option.{option_map_or}
use Rattle.std.specs.Str.{bytes_eq}
use Rattle.target_expr.specs.declared.attr.Attr.{Attr}
use Rattle.target_expr.specs.declared.pred.Pred.{Pred}
use Rattle.target_expr.specs.Attributes.{number_of}

abbrev pub same_attr : Attr → Attr → Bool
same_attr a b = number_of a == number_of b

-- no attribute stands twice
abbrev pub are_single : List (Attr × List ℕ) → Bool
are_single [] = true
are_single (p ∷ ps) = not (list_any (λ (q : Attr × List ℕ). same_attr q.0 p.0) ps) && are_single ps

-- the value of the attribute, where it is present
abbrev pub value_at : List (Attr × List ℕ) → Attr → Option (List ℕ)
value_at pairs a = option_map (λ (p : Attr × List ℕ). p.1) (find (λ (p : Attr × List ℕ). same_attr p.0 a) pairs)

-- the attribute is present, with a listed value
abbrev pub is_in : List (Attr × List ℕ) → Pred → Bool
is_in pairs p = option_map_or (λ x. list_any (λ v. bytes_eq v x) p.values) (value_at pairs p.attr) false

-- "not in" is true where "in" is false
abbrev pub pred_holds : List (Attr × List ℕ) → Pred → Bool
pred_holds pairs p = if p.negated then not (is_in pairs p) else is_in pairs p

abbrev pub conjunction_holds : List (Attr × List ℕ) → List Pred → Bool
conjunction_holds pairs c = list_all (pred_holds pairs) c

abbrev pub holds : List (Attr × List ℕ) → List (List Pred) → Bool
holds pairs e = list_any (conjunction_holds pairs) e

-- the place, from 1 on, of the first conjunction that is true, or how many there are
abbrev pub tests_in : List (Attr × List ℕ) → List (List Pred) → ℕ
tests_in pairs e = min (position_or_len (conjunction_holds pairs) e + 1) (length e)
