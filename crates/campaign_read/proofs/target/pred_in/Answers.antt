use Rattle.std.proofs.Common.{sym, subst}
use Rattle.exact_json.specs.View.{tree_of}
use Rattle.json_fields.specs.Answers.{Answers}
use Rattle.campaign_read.specs.Target.{pred_in}
use Rattle.campaign_read.specs.declared.fault.CampFault.{CampFault}
use Rattle.campaign_read.proofs.target.pred_in.Goals as goal

pub returns : goal.returns
returns c = subst (Answers CampFault.Memory (pred_in c.args.i c.args.j (tree_of c.args.value.now))) (sym c.kept.ensures) c.fill_pred-filled.ensures
