-- A request without a fault in its fields is answered by what is made and judged of them.
use Rattle.std.proofs.Common.{◌≡◌, ℕ, ◌≤◌, List, [], ◌++◌, length, map, Ok, Err, subst, sym, ap, ◌∙◌}
use Rattle.std.specs.Prelude.{Result, IfOk}
use Rattle.std.proofs.lemmas.List.{length-map}
use Rattle.exact_json.specs.Tree.{Tree}
use Rattle.json_fields.specs.Answers.{Answers, IsFirst}
use Rattle.json_fields.specs.Readings.{Reading, each_at, give, map_value, ◌>>◌}
use Rattle.json_fields.proofs.First.{answers_behind, behind, in_front}
use Rattle.target_expr.specs.declared.attr.Attr.{Attr}
use Rattle.top_match.specs.Certificate.{reason}
use Rattle.which_read.specs.declared.fault.WhichFault.{WhichFault}
use Rattle.which_read.specs.declared.field.WhichField.{WhichField}
use Rattle.which_read.specs.declared.request.Judged.{Judged}
use Rattle.which_read.specs.Assigned.{assignment_field}
use Rattle.which_read.specs.Judged.{judged}
use Rattle.which_read.specs.Parts.{number_field}
use Rattle.which_read.specs.Request.{Written, expressions_field, fields_in, made_of, making_faults, n_bounds}
use Rattle.which_read.proofs.Few.{few_made}
use Rattle.which_read.proofs.Made.{asked}

abbrev n_in : Tree → Reading WhichFault ℕ
n_in t = number_field n_bounds WhichField.N t

-- what is made and judged of the fields
abbrev pub judged_with : ℕ → List (Attr × List ℕ) → List Written → Reading WhichFault Judged
judged_with n a ws = each_at making_faults ws >> give (asked n (map (reason a) (map made_of ws)))

-- what the fields have is known, and the making has answered
pub judged_right : (t : Tree) (n : ℕ) (a : List (Attr × List ℕ)) (r : Result Judged WhichFault) → (n_in t).faults ≡ [] → n ≡ (n_in t).value
    → (assignment_field t).faults ≡ [] → a ≡ (assignment_field t).value → (expressions_field t).faults ≡ []
    → Answers WhichFault.Memory (judged_with n a (expressions_field t).value) r → Answers WhichFault.Memory (map_value judged (fields_in t)) r
unfolding fields_in
judged_right t n a r no_n is_n no_a is_a no_e h =
    let ws = (expressions_field t).value in
    let of_fields = judged_with (n_in t).value (assignment_field t).value ws in
    let of_a = subst (λ b. Answers WhichFault.Memory (judged_with n b ws) r) is_a h in
    let of_n = subst (λ m. Answers WhichFault.Memory (judged_with m (assignment_field t).value ws) r) is_n of_a in
    let of_expressions = answers_behind WhichFault.Memory (expressions_field t).faults of_fields r no_e of_n in
    let of_assignment = answers_behind WhichFault.Memory (assignment_field t).faults ((expressions_field t).faults >> of_fields) r no_a of_expressions in
    answers_behind WhichFault.Memory (n_in t).faults ((assignment_field t).faults >> ((expressions_field t).faults >> of_fields)) r no_n of_assignment

-- the assignment has a fault
pub assignment_first : (t : Tree) (f : WhichFault) → (n_in t).faults ≡ [] → IsFirst WhichFault.Memory (assignment_field t).faults f → IsFirst WhichFault.Memory (fields_in t).faults f
unfolding fields_in
assignment_first t f no_n first =
    let made = each_at making_faults (expressions_field t).value ++ [] in
    behind WhichFault.Memory (n_in t).faults ((assignment_field t).faults ++ ((expressions_field t).faults ++ made)) f no_n
    (in_front WhichFault.Memory (assignment_field t).faults ((expressions_field t).faults ++ made) f first)

-- the expressions have one
pub expressions_first : (t : Tree) (f : WhichFault) → (n_in t).faults ≡ [] → (assignment_field t).faults ≡ [] → IsFirst WhichFault.Memory (expressions_field t).faults f
    → IsFirst WhichFault.Memory (fields_in t).faults f
unfolding fields_in
expressions_first t f no_n no_a first =
    let made = each_at making_faults (expressions_field t).value ++ [] in
    behind WhichFault.Memory (n_in t).faults ((assignment_field t).faults ++ ((expressions_field t).faults ++ made)) f no_n
    (behind WhichFault.Memory (assignment_field t).faults ((expressions_field t).faults ++ made) f no_a
    (in_front WhichFault.Memory (expressions_field t).faults made f first))

-- at most 4,096 expressions are answered
pub few_answered : (t : Tree) (r : Result Judged WhichFault) → Answers WhichFault.Memory (map_value judged (fields_in t)) r → IfOk r (λ q. length q.reasons ≤ 4096)
few_answered t (Ok q) (none, is) =
    let es = (fields_in t).value.expressions in
    let long : length q.reasons ≡ length es = ap (λ (p : Judged). length p.reasons) is ∙ length-map es (reason (fields_in t).value.assignment) in
    subst (λ n. n ≤ 4096) (sym long) (few_made t none)
few_answered t (Err f) h = tt
