use Rattle.std.proofs.Common.{◌%◌, List, ap, ◌∙◌}
use Rattle.exact_json.specs.View.{tree_of}
use Rattle.json_fields.proofs.First.{longer}
use Rattle.campaign.specs.declared.parts.FactParts.{FactParts}
use Rattle.target_expr.specs.declared.pred.RawPred.{RawPred}
use Rattle.campaign_read.specs.Campaign.{body_in, made_of, parts_in}
use Rattle.campaign_read.specs.Target.{target_field}
use Rattle.campaign_read.specs.declared.fault.CampFault.{CampFault}
use Rattle.campaign_read.proofs.Made.{made_right, whole_budget}
use Rattle.campaign_read.proofs.body.campaign_in.Goals as goal

pub made_of-requires : goal.made_of-requires
made_of-requires c =
    let t = tree_of c.args.body.now in
    let (none, is) = c.in-Ok.ensures (parts_in t) (target_field t) c.parts_in.ensures c.target_field.ensures in
    ap (λ (v : FactParts × List (List RawPred)). v.0.budget % 1000) is ∙ whole_budget t

pub returns-in-Ok : goal.returns-in-Ok
returns-in-Ok c =
    let t = tree_of c.args.body.now in
    let (none, is) = c.in-Ok.ensures (parts_in t) (target_field t) c.parts_in.ensures c.target_field.ensures in
    made_right t c.in-Ok.parts c.in-Ok.target c.made_of.result none (ap (λ (v : FactParts × List (List RawPred)). v.0) is) (ap (λ (v : FactParts × List (List RawPred)). v.1) is) c.made_of.ensures

pub returns-in-Err : goal.returns-in-Err
unfolding body_in
returns-in-Err c =
    let t = tree_of c.args.body.now in
    longer CampFault.Memory (parts_in t).faults (target_field t).faults (made_of (parts_in t).value (target_field t).value).faults c.in-Err.fault (c.in-Err.ensures (parts_in t) (target_field t) c.parts_in.ensures c.target_field.ensures)
