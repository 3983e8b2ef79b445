use Rattle.std.proofs.Common.{◌∙◌, ◌≡◌, ◌++◌, ◌∷◌, [], arith}
use Rattle.std.proofs.lemmas.Grind.{common_steps}
use Rattle.std.proofs.lemmas.Result.{err_from_is_err_and}
use Rattle.exact_json.specs.View.{tree_of}
use Rattle.json_fields.proofs.Each.{no_faults_yet, nothing_yet, read_first, read_more, read_still}
use Rattle.campaign_read.specs.declared.fault.CampFault.{CampFault}
use Rattle.campaign_read.specs.Target.{conjunction_at}
use Rattle.campaign_read.proofs.target.all_conjunctions.Goals as goal

pub loop-i-init : goal.loop-i-init
loop-i-init c = record { right = no_faults_yet conjunction_at; found = c.in_ok-conjunctions.ensures.items ∙ nothing_yet conjunction_at }

pub returns-in_err-conjunction_entry : goal.returns-in_err-conjunction_entry
returns-in_err-conjunction_entry c =
    let p = err_from_is_err_and c.from_residual-in_err-conjunction_entry.result c.from_residual-in_err-conjunction_entry.ensures.1 in
    rw (p.1, p.2)
    (read_first CampFault.Memory conjunction_at tree_of c.args.values.now c.loop-i.i c.index-values-i.result _ c.loop-i-test.true c.index-values-i.is c.loop-i.invariant.right c.in_err-conjunction_entry.ensures)

pub loop-i-preserved : goal.loop-i-preserved
loop-i-preserved c =
    let e = c.in_ok-conjunction_entry.ensures in
    let pushed : c.push.new.self.items ≡ c.loop-i.conjunctions.items ++ c.in_ok-conjunction_entry.field-0 ∷ [] = grind (arith, common_steps) in
    record {
      right = read_still conjunction_at tree_of c.args.values.now c.loop-i.i c.index-values-i.result c.loop-i-test.true c.index-values-i.is c.loop-i.invariant.right e.0;
      found = pushed
          ∙ read_more conjunction_at tree_of c.args.values.now c.loop-i.i c.index-values-i.result _ _ c.loop-i-test.true c.index-values-i.is c.loop-i.invariant.found e.1;
    }
