use Rattle.std.proofs.Common.{◌∙◌, ap}
use Rattle.std.proofs.lemmas.Result.{err_from_is_err_and}
use Rattle.exact_json.specs.View.{tree_of}
use Rattle.json_fields.proofs.Each.{no_faults_yet, nothing_yet, read_first, read_still}
use Rattle.which_read.specs.declared.fault.WhichFault.{WhichFault}
use Rattle.which_read.specs.Made.{judged_from, with_next}
use Rattle.which_read.specs.Request.{expression_at}
use Rattle.which_read.proofs.Made.{judged_more, none_judged}
use Rattle.which_read.proofs.expressions.enter_all.Goals as goal

pub loop-i-init : goal.loop-i-init
loop-i-init c =
    let a = c.args.assignment.now in
    record { right = no_faults_yet expression_at; found = none_judged a c.args.judging.now c.requires.none c.requires.right ∙ ap (judged_from a) (nothing_yet expression_at) }

pub returns-in_err-enter : goal.returns-in_err-enter
returns-in_err-enter c =
    let p = err_from_is_err_and c.from_residual.result c.from_residual.ensures.1 in
    rw (p.1, p.2) (read_first WhichFault.Memory expression_at tree_of c.args.values.now c.loop-i.i c.index-values-i.result _ c.loop-i-test.true c.index-values-i.is
    c.loop-i.invariant.right c.in_err-enter.ensures)

pub loop-i-preserved : goal.loop-i-preserved
loop-i-preserved c =
    let a = c.args.assignment.now in
    let e = c.in_ok-enter.ensures in
    record {
      right = read_still expression_at tree_of c.args.values.now c.loop-i.i c.index-values-i.result c.loop-i-test.true c.index-values-i.is c.loop-i.invariant.right e.0;
      found = e.1 ∙ ap (with_next a c.loop-i.i (expression_at c.loop-i.i (tree_of c.index-values-i.result)).value) c.loop-i.invariant.found
          ∙ judged_more a tree_of c.args.values.now c.loop-i.i c.index-values-i.result c.loop-i-test.true c.index-values-i.is;
    }
