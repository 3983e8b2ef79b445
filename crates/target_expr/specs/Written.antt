-- When an expression is true as it is written, before it is put in order.
use Rattle.std.specs.Prelude.{ℕ, List, Bool, false}
use Rattle.std.specs.List.{list_all, list_any}
use Rattle.std.specs.Option.{option_map_or}
use Rattle.target_expr.specs.declared.attr.Attr.{Attr}
use Rattle.target_expr.specs.declared.pred.RawPred.{RawPred}
use Rattle.target_expr.specs.Attributes.{attr_named}
use Rattle.target_expr.specs.Truth.{pred_holds}

-- its name is an attribute's, and it is true of that
abbrev pub written_pred_holds : List (Attr × List ℕ) → RawPred → Bool
written_pred_holds pairs p = option_map_or (λ a. pred_holds pairs (record { attr = a; negated = p.negated; values = p.values })) (attr_named p.attr) false

abbrev pub written_holds : List (Attr × List ℕ) → List (List RawPred) → Bool
written_holds pairs raw = list_any (λ c. list_all (written_pred_holds pairs) c) raw
