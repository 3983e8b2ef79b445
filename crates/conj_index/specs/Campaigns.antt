-- Campaigns in the order of their numbers, each with its expression.
use Rattle.std.specs.Prelude.{ℕ, List, length, map, All, IsTrue}
use Rattle.std.specs.List.{flat_map}
use Rattle.std.specs.List.Sorted.{IsStrictlyIncreasing}
use Rattle.target_expr.specs.declared.pred.Pred.{Pred}
use Rattle.target_expr.specs.Kept.{is_kept}

abbrev pub Campaigns : Type 0
Campaigns = List (ℕ × List (List Pred))

abbrev pub numbers_of : Campaigns → List ℕ
numbers_of added = map (λ (p : ℕ × List (List Pred)). p.0) added

-- each number is above the one before it
abbrev pub DoRise : Campaigns → Type 0
DoRise added = IsStrictlyIncreasing (numbers_of added)

-- all conjunctions, those of one campaign after those of the one before it
abbrev pub expression_of : Campaigns → List (List Pred)
expression_of added = flat_map (λ (p : ℕ × List (List Pred)). p.1) added

abbrev pub conjunctions_in : Campaigns → ℕ
conjunctions_in added = length (expression_of added)

-- each expression is in order and within its limits
abbrev pub AreKept : Campaigns → Type 0
AreKept added = All (λ (p : ℕ × List (List Pred)). IsTrue (is_kept p.1)) added
