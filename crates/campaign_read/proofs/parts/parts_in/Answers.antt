use Rattle.std.proofs.Common.{sym, subst}
use Rattle.exact_json.specs.View.{tree_of}
use Rattle.json_fields.specs.Answers.{Answers}
use Rattle.campaign_read.specs.Campaign.{parts_in}
use Rattle.campaign_read.specs.declared.fault.CampFault.{CampFault}
use Rattle.campaign_read.proofs.parts.parts_in.Goals as goal

pub returns : goal.returns
returns c = subst (Answers CampFault.Memory (parts_in (tree_of c.args.body.now))) (sym c.kept.ensures) c.fill_parts-filled.ensures
