-- A request for the best expressions in a JSON text: what is wrong with it, in the order of reading, and what it holds.
use Rattle.std.specs.Prelude.{ℕ, ◌+◌, pos, nat_lt, List, [], length, map}
use Rattle.exact_json.specs.Tree.{Tree, null}
use Rattle.json_fields.specs.Fields.{as_object}
use Rattle.json_fields.specs.Readings.{Reading, each_at, each_in, give, with_faults, within, ◌>>◌, ◌>>=◌}
use Rattle.json_fields.specs.declared.bounds.Bounds.{Bounds}
use Rattle.target_expr.specs.declared.attr.Attr.{Attr}
use Rattle.target_expr.specs.declared.pred.RawPred.{RawPred}
use Rattle.cnf_match.specs.Making.{faults, keep}
use Rattle.cnf_match.specs.Conjunctive.{Cnf}
use Rattle.cnf_match.specs.declared.fault.CnfFault.{CnfFault}
use Rattle.cnf_match.specs.declared.weight.RawWeight.{RawWeight}
use Rattle.which_read.specs.declared.fault.WhichFault.{WhichFault}
use Rattle.which_read.specs.declared.field.WhichField.{WhichField}
use Rattle.which_read.specs.Assigned.{assignment_field}
use Rattle.which_read.specs.Clauses.{clauses_field}
use Rattle.which_read.specs.Parts.{array_in, fault_of, fault_where, number_field}
use Rattle.which_read.specs.Paths.{member_name}
use Rattle.which_read.specs.Weighed.{weights_field}

-- how many are wanted
abbrev pub n_bounds : Bounds
n_bounds = record { least = pos 1; greatest = pos 4096 }

-- ---- the expressions, as they are written

-- clauses and weights
abbrev pub Written : Type 0
Written = List (List RawPred) × List RawWeight

-- the expression at place i
unfoldable pub expression_in : ℕ → Tree → Reading WhichFault Written
expression_in i t = do
  clauses ← clauses_field i t
  weights ← weights_field i t
  give (clauses, weights)

abbrev pub expression_at : ℕ → Tree → Reading WhichFault Written
expression_at i t = within (fault_of (WhichField.Expression i)) null (expression_in i) (as_object t)

-- at most 4,096 of them
unfoldable pub written_in : List Tree → Reading WhichFault (List Written)
written_in ts = do
  fault_where (nat_lt 4096 (length ts)) (WhichFault.Range WhichField.Expressions)
  each_in expression_at ts

unfoldable pub expressions_field : Tree → Reading WhichFault (List Written)
expressions_field t =
    within (fault_of WhichField.Expressions) [] written_in (array_in (member_name WhichField.Expressions) t)

-- ---- the expressions, made

-- the expressions are made when all has been read, in their order; a fault has the number of its expression, from 1 on
unfoldable pub making_faults : ℕ → Written → List WhichFault
making_faults i (raw, ws) = map (WhichFault.Expression (i + 1)) (faults raw ws)

-- the fault of the expression of number n, which private clauses cite
abbrev pub fault_of_making : ℕ → CnfFault → WhichFault
fault_of_making n CnfFault.Memory = WhichFault.Memory
fault_of_making n (CnfFault.TooMany j k) = WhichFault.Expression n (CnfFault.TooMany j k)
fault_of_making n (CnfFault.EmptyClause j) = WhichFault.Expression n (CnfFault.EmptyClause j)
fault_of_making n (CnfFault.UnknownAttr j k) = WhichFault.Expression n (CnfFault.UnknownAttr j k)
fault_of_making n (CnfFault.EmptyList j k) = WhichFault.Expression n (CnfFault.EmptyList j k)
fault_of_making n (CnfFault.Weight at) = WhichFault.Expression n (CnfFault.Weight at)

unfoldable pub made_of : Written → Cnf
made_of (raw, ws) = keep raw ws

-- the expression at place i by itself
unfoldable pub made_at : ℕ → Tree → Reading WhichFault Cnf
made_at i t = do
  written ← expression_at i t
  with_faults (making_faults i written) (made_of written)

-- ---- the whole

-- how many are wanted, the assignment, and the expressions
pub record Request : Type 0 where
  pub n : ℕ
  pub assignment : List (Attr × List ℕ)
  pub expressions : List Cnf

unfoldable pub fields_in : Tree → Reading WhichFault Request
fields_in t = do
  n ← number_field n_bounds WhichField.N t
  assignment ← assignment_field t
  written ← expressions_field t
  each_at making_faults written
  give (record { n = n; assignment = assignment; expressions = map made_of written })

-- a request is an object
unfoldable pub which_request : Tree → Reading WhichFault Request
which_request t = within (λ _. WhichFault.NotObject) null fields_in (as_object t)

-- all that is wrong with the request, the first fault first
abbrev pub which_faults : Tree → List WhichFault
which_faults t = (which_request t).faults

abbrev pub which_from : Tree → Request
which_from t = (which_request t).value
