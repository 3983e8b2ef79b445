use Rattle.exact_json.specs.Docs.{doc_tree}
use Rattle.command_read.specs.Posted.{add_or_change}
use Rattle.command_read.proofs.Readings.{bad_campaign}
use Rattle.command_read.proofs.bodies.campaign_in.Goals as goal

pub returns-in-Err : goal.returns-in-Err
returns-in-Err c =
    bad_campaign (add_or_change c.args.changed) (doc_tree c.args.doc.now) c.in-Err.fault c.campaign_refusal.result c.refuse.result c.in-Err.ensures c.campaign_refusal.ensures.refused c.campaign_refusal.ensures.fault c.refuse.ensures
