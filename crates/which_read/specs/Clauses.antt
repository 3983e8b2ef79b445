-- The clauses of an expression: an array of arrays of predicates.
use Rattle.std.specs.Prelude.{ℕ, List, [], Bool, ◌&&◌, not, if◌then◌else◌, is_some}
use Rattle.exact_json.specs.Tree.{Tree, null}
use Rattle.json_fields.specs.Fields.{as_array, as_object, present}
use Rattle.json_fields.specs.Readings.{Reading, each_in, give, within, ◌>>◌, ◌>>=◌}
use Rattle.target_expr.specs.declared.pred.RawPred.{RawPred}
use Rattle.which_read.specs.declared.fault.WhichFault.{WhichFault}
use Rattle.which_read.specs.declared.field.WhichField.{WhichField}
use Rattle.which_read.specs.Parts.{array_in, fault_of, fault_where, text_field, texts_field}
use Rattle.which_read.specs.Paths.{member_name}

-- whether a predicate has `in`, and whether it has `not`
abbrev pub has_in : Tree → Bool
has_in t = is_some (present (member_name (WhichField.In 0 0 0)) t)

abbrev pub has_not : Tree → Bool
has_not t = is_some (present (member_name (WhichField.Not 0 0 0)) t)

-- the predicate at place k of the clause at place j of the expression at place i: it lists what it admits or what it
-- excludes, one of them and not both
unfoldable pub pred_in : ℕ → ℕ → ℕ → Tree → Reading WhichFault RawPred
pred_in i j k t = do
  attr ← text_field (WhichField.PredicateAttr i j k) t
  fault_where (not (has_in t) && not (has_not t)) (WhichFault.Missing (WhichField.In i j k))
  admitted ← texts_field (WhichField.In i j k) t
  fault_where (has_in t && has_not t) (WhichFault.WrongType (WhichField.Not i j k))
  excluded ← texts_field (WhichField.Not i j k) t
  give (record { attr = attr; negated = has_not t; values = if has_not t then excluded else admitted })

abbrev pub pred_at : ℕ → ℕ → ℕ → Tree → Reading WhichFault RawPred
pred_at i j k t = within (fault_of (WhichField.Predicate i j k)) null (pred_in i j k) (as_object t)

-- a clause is an array of them
unfoldable pub clause_at : ℕ → ℕ → Tree → Reading WhichFault (List RawPred)
clause_at i j t = within (fault_of (WhichField.Clause i j)) [] (each_in (pred_at i j)) (as_array t)

unfoldable pub clauses_field : ℕ → Tree → Reading WhichFault (List (List RawPred))
clauses_field i t =
    within (fault_of (WhichField.All i)) [] (each_in (clause_at i)) (array_in (member_name (WhichField.All i)) t)
