-- At most 4,096 expressions are read.
use Rattle.std.proofs.Common.{◌≡◌, ℕ, ◌<◌, ◌≤◌, nat_lt, List, [], ◌++◌, length, map, Bool, true, false, Ok, Err, inr, refl, sym, subst, ap, ◌∙◌, arith}
use Rattle.std.specs.Prelude.{Result}
use Rattle.std.proofs.lemmas.Bool.Decides.{nat_tests}
use Rattle.std.proofs.lemmas.List.{length-map}
use Rattle.exact_json.specs.Tree.{Tree}
use Rattle.json_fields.specs.Answers.{IsFirst}
use Rattle.json_fields.specs.Readings.{each_at, each_in, within as inside}
use Rattle.json_fields.specs.declared.flaw.Flaw.{Flaw}
use Rattle.json_fields.proofs.Each.{each_many, left_none, right_none}
use Rattle.which_read.specs.declared.fault.WhichFault.{WhichFault}
use Rattle.which_read.specs.declared.field.WhichField.{WhichField}
use Rattle.which_read.specs.Assigned.{assignment_field}
use Rattle.which_read.specs.Parts.{array_in, fault_of, fault_where, number_field}
use Rattle.which_read.specs.Paths.{member_name}
use Rattle.which_read.specs.Request.{expression_at, expressions_field, fields_in, made_of, making_faults, n_bounds, written_in}

above : (n : ℕ) → 4096 < n → nat_lt 4096 n ≡ true
above n h = grind (arith, nat_tests)

within : (n : ℕ) → n ≤ 4096 → nat_lt 4096 n ≡ false
within n h = grind (arith, nat_tests)

-- one too many
pub too_many : {V : Type 0} (v : V → Tree) (vs : List V) → 4096 < length vs → IsFirst WhichFault.Memory (written_in (map v vs)).faults (WhichFault.Range WhichField.Expressions)
unfolding written_in
too_many v vs h =
    let test : nat_lt 4096 (length (map v vs)) ≡ true = ap (nat_lt 4096) (length-map vs v) ∙ above (length vs) h in
    let rest = (each_in expression_at (map v vs)).faults in
    record { first = inr (rest, ap (λ b. fault_where b (WhichFault.Range WhichField.Expressions) ++ rest) test) }

-- not too many
pub few_enough : {V : Type 0} (v : V → Tree) (vs : List V) → length vs ≤ 4096 → fault_where (nat_lt 4096 (length (map v vs))) (WhichFault.Range WhichField.Expressions) ≡ []
few_enough v vs h =
    let test : nat_lt 4096 (length (map v vs)) ≡ false = ap (nat_lt 4096) (length-map vs v) ∙ within (length vs) h in
    ap (λ b. fault_where b (WhichFault.Range WhichField.Expressions)) test

-- ---- of a request without a fault

at_most : (n : ℕ) → fault_where (nat_lt 4096 n) (WhichFault.Range WhichField.Expressions) ≡ [] → n ≤ 4096
at_most n e = at_most_by (nat_lt 4096 n) n refl e
  where
    at_most_by : (b : Bool) (n : ℕ) → nat_lt 4096 n ≡ b → fault_where b (WhichFault.Range WhichField.Expressions) ≡ [] → n ≤ 4096
    at_most_by true n t e = cc
    at_most_by false n t e = grind (arith, nat_tests)

few_in : (r : Result (List Tree) Flaw) → (inside (fault_of WhichField.Expressions) [] written_in r).faults ≡ [] → length (inside (fault_of WhichField.Expressions) [] written_in r).value ≤ 4096
unfolding written_in
few_in (Err flaw) e = cc
few_in (Ok ts) e = subst (λ n. n ≤ 4096) (sym (each_many expression_at ts)) (at_most (length ts) (left_none _ (each_in expression_at ts).faults e))

few_written : (t : Tree) → (expressions_field t).faults ≡ [] → length (expressions_field t).value ≤ 4096
unfolding expressions_field
few_written t e = few_in (array_in (member_name WhichField.Expressions) t) e

pub few_made : (t : Tree) → (fields_in t).faults ≡ [] → length (fields_in t).value.expressions ≤ 4096
unfolding fields_in
few_made t e =
    let n = (number_field n_bounds WhichField.N t).faults in
    let assigned = (assignment_field t).faults in
    let read = (expressions_field t).faults in
    let made = each_at making_faults (expressions_field t).value ++ [] in
    let written = few_written t (left_none read made (right_none assigned (read ++ made) (right_none n (assigned ++ (read ++ made)) e))) in
    subst (λ n. n ≤ 4096) (sym (length-map (expressions_field t).value made_of)) written
