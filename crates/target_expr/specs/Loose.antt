-- What has the bytes of an expression with no more conjunctions, predicates and values than the limits, in
-- order or not: which the crate's private clauses cite.
use Rattle.std.specs.Prelude.{List}
use Rattle.byte_fields.specs.Encodings.{IsListWithin, IsShort}
use Rattle.target_expr.specs.declared.attr.Attr.{Attr}
use Rattle.target_expr.specs.declared.pred.Pred.{Pred}

abbrev pub IsAttr : Attr → Type 0
IsAttr a = Unit {0}

abbrev pub IsLoosePred : Pred → Type 0
IsLoosePred p = IsListWithin 256 IsShort p.values

abbrev pub IsLooseConjunction : List Pred → Type 0
IsLooseConjunction c = IsListWithin 16 IsLoosePred c

abbrev pub IsLoose : List (List Pred) → Type 0
IsLoose e = IsListWithin 64 IsLooseConjunction e
