-- The bytes of an expression: a list of conjunctions, each a list of predicates, each the attribute's
-- number, whether it is negated, and the list of its values.
use Rattle.std.specs.Prelude.{◌≡◌, ℕ, List, ◌++◌, IsTrue, Some, None, Result, Ok, Err}
use Rattle.byte_fields.specs.Codes.{IsReadAt}
use Rattle.byte_fields.specs.Encodings.{byte_bytes, flag_bytes, text_bytes, list_bytes}
use Rattle.target_expr.specs.declared.attr.Attr.{Attr}
use Rattle.target_expr.specs.declared.pred.Pred.{Pred}
use Rattle.target_expr.specs.declared.decode.ExprBytes.{ExprBytes}
use Rattle.target_expr.specs.declared.decode.ExprBytes.TheVariants.{Torn, Memory}
use Rattle.target_expr.specs.Attributes.{number_of}
use Rattle.target_expr.specs.Kept.{is_kept}

abbrev pub attr_bytes : Attr → List ℕ
attr_bytes a = byte_bytes (number_of a)

abbrev pub pred_bytes : Pred → List ℕ
pred_bytes p = attr_bytes p.attr ++ (flag_bytes p.negated ++ list_bytes text_bytes p.values)

abbrev pub conjunction_bytes : List Pred → List ℕ
conjunction_bytes c = list_bytes pred_bytes c

abbrev pub expr_bytes : List (List Pred) → List ℕ
expr_bytes e = list_bytes conjunction_bytes e

-- what can be encoded and read again: what is in the order and within the limits of every expression
abbrev pub IsEncodable : List (List Pred) → Type 0
IsEncodable e = IsTrue (is_kept e)

-- what is decoded at a place: an expression whose bytes begin there, with the place behind them; torn
-- at that place where the bytes of no expression begin there
abbrev pub IsDecoded : List ℕ → ℕ → Result (List (List Pred) × ℕ) ExprBytes → Type 0
IsDecoded bytes place (Ok p) = IsReadAt IsEncodable expr_bytes bytes place (Some p)
IsDecoded bytes place (Err (Torn at)) = (at ≡ place) × IsReadAt IsEncodable expr_bytes bytes place None
IsDecoded bytes place (Err Memory) = Unit {0}
