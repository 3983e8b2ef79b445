use Rattle.std.proofs.Common.{◌∙◌, ap, sym, subst}
use Rattle.std.proofs.lemmas.Result.{err_from_is_err_and}
use Rattle.exact_json.specs.View.{tree_of}
use Rattle.json_fields.specs.Answers.{Answers, map_ok}
use Rattle.which_read.specs.declared.fault.WhichFault.{WhichFault}
use Rattle.which_read.specs.Request.{expressions_field}
use Rattle.which_read.proofs.Made.{asked, asked_right}
use Rattle.which_read.proofs.Whole.{assignment_first, expressions_first, judged_right, judged_with}
use Rattle.which_read.proofs.request.request_in.Goals as goal

pub returns-in_err-assignment : goal.returns-in_err-assignment
returns-in_err-assignment c =
    let p = err_from_is_err_and c.from_residual-in_err-assignment.result c.from_residual-in_err-assignment.ensures.1 in
    rw (p.1, p.2) (assignment_first (tree_of c.args.body.now) _ c.in_ok-n.ensures.0 c.in_err-assignment.ensures)

pub returns-in-Ok : goal.returns-in-Ok
returns-in-Ok c =
    let t = tree_of c.args.body.now in
    let n = c.in_ok-n.n in
    let a = c.in_ok-assignment.assignment in
    let ws = (expressions_field t).value in
    let (no_n, is_n) = c.in_ok-n.ensures in
    let (no_a, is_a) = c.in_ok-assignment.ensures in
    let (no_e, is) = c.in-Ok.ensures in
    judged_right t n a c.judged_of.result no_n is_n no_a is_a no_e
    (subst (Answers WhichFault.Memory (judged_with n a ws)) (sym (c.judged_of.ensures ∙ ap (map_ok (asked n)) is)) (asked_right n a ws))

pub returns-in-Err : goal.returns-in-Err
returns-in-Err c = expressions_first (tree_of c.args.body.now) c.in-Err.fault c.in_ok-n.ensures.0 c.in_ok-assignment.ensures.0 c.in-Err.ensures
