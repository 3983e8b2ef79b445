use Rattle.std.proofs.Common.{◌∙◌, ◌≡◌, ◌++◌, ◌∷◌, [], arith}
use Rattle.std.proofs.lemmas.Grind.{common_steps}
use Rattle.std.proofs.lemmas.Result.{err_from_is_err_and}
use Rattle.exact_json.specs.View.{tree_of}
use Rattle.json_fields.proofs.Each.{no_faults_yet, nothing_yet, read_first, read_more, read_still}
use Rattle.campaign_read.specs.declared.fault.CampFault.{CampFault}
use Rattle.campaign_read.specs.Target.{pred_at}
use Rattle.campaign_read.proofs.target.all_preds.Goals as goal

pub loop-j-init : goal.loop-j-init
loop-j-init c = record { right = no_faults_yet (pred_at c.args.i); found = c.in_ok-preds.ensures.items ∙ nothing_yet (pred_at c.args.i) }

pub returns-in_err-pred_entry : goal.returns-in_err-pred_entry
returns-in_err-pred_entry c =
    let p = err_from_is_err_and c.from_residual-in_err-pred_entry.result c.from_residual-in_err-pred_entry.ensures.1 in
    rw (p.1, p.2)
    (read_first CampFault.Memory (pred_at c.args.i) tree_of c.args.values.now c.loop-j.j c.index-values-j.result _ c.loop-j-test.true c.index-values-j.is c.loop-j.invariant.right c.in_err-pred_entry.ensures)

pub loop-j-preserved : goal.loop-j-preserved
loop-j-preserved c =
    let e = c.in_ok-pred_entry.ensures in
    let pushed : c.push.new.self.items ≡ c.loop-j.preds.items ++ c.in_ok-pred_entry.field-0 ∷ [] = grind (arith, common_steps) in
    record {
      right = read_still (pred_at c.args.i) tree_of c.args.values.now c.loop-j.j c.index-values-j.result c.loop-j-test.true c.index-values-j.is c.loop-j.invariant.right e.0;
      found = pushed
          ∙ read_more (pred_at c.args.i) tree_of c.args.values.now c.loop-j.j c.index-values-j.result _ _ c.loop-j-test.true c.index-values-j.is c.loop-j.invariant.found e.1;
    }
