use Rattle.std.proofs.Common.{◌∙◌, ◌≡◌, ◌++◌, ◌∷◌, [], arith}
use Rattle.std.proofs.lemmas.Grind.{common_steps}
use Rattle.std.proofs.lemmas.Result.{err_from_is_err_and}
use Rattle.exact_json.specs.View.{tree_of}
use Rattle.json_fields.proofs.Each.{no_faults_yet, nothing_yet, read_first, read_more, read_still}
use Rattle.which_read.specs.declared.fault.WhichFault.{WhichFault}
use Rattle.which_read.specs.Clauses.{pred_at}
use Rattle.which_read.proofs.clauses.push_preds.Goals as goal

pub loop-k-init : goal.loop-k-init
loop-k-init c = record { right = no_faults_yet (pred_at c.args.i c.args.j); found = c.requires.none ∙ nothing_yet (pred_at c.args.i c.args.j) }

pub returns-in_err-pred_entry : goal.returns-in_err-pred_entry
returns-in_err-pred_entry c =
    let p = err_from_is_err_and c.from_residual.result c.from_residual.ensures.1 in
    rw (p.1, p.2) (read_first WhichFault.Memory (pred_at c.args.i c.args.j) tree_of c.args.values.now c.loop-k.k c.index-values-k.result _ c.loop-k-test.true c.index-values-k.is
    c.loop-k.invariant.right c.in_err-pred_entry.ensures)

pub loop-k-preserved : goal.loop-k-preserved
loop-k-preserved c =
    let e = c.in_ok-pred_entry.ensures in
    let pushed : c.push.new.items.items ≡ c.loop-k.preds.items ++ c.in_ok-pred_entry.field-0 ∷ [] = grind (arith, common_steps) in
    record {
      right = read_still (pred_at c.args.i c.args.j) tree_of c.args.values.now c.loop-k.k c.index-values-k.result c.loop-k-test.true c.index-values-k.is c.loop-k.invariant.right e.0;
      found = pushed ∙ read_more (pred_at c.args.i c.args.j) tree_of c.args.values.now c.loop-k.k c.index-values-k.result _ _ c.loop-k-test.true c.index-values-k.is c.loop-k.invariant.found e.1;
    }
