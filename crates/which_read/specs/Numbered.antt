-- Cited by private functions alone: the attribute of a number with its text.
use Rattle.std.specs.Prelude.{ℕ, List, Option, option_and_then}
use Rattle.exact_json.specs.Tree.{Tree}
use Rattle.target_expr.specs.Attributes.{attr_numbered}
use Rattle.target_expr.specs.declared.attr.Attr.{Attr}
use Rattle.which_read.specs.Assigned.{pair_of}

abbrev pub pair_numbered : Tree → ℕ → Option (Attr × List ℕ)
pair_numbered t n = option_and_then (pair_of t) (attr_numbered n)
