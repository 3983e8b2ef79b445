use Rattle.exact_json.specs.Docs.{doc_tree}
use Rattle.command_read.specs.Commands.{campaign_command}
use Rattle.command_read.specs.Posted.{add_or_change}
use Rattle.command_read.proofs.Readings.{bad_text, found_in}
use Rattle.command_read.proofs.bodies.campaign_text.Goals as goal

pub returns-in-Ok : goal.returns-in-Ok
returns-in-Ok c = found_in (campaign_command (add_or_change c.args.changed)) c.args.body.now (doc_tree c.in-Ok.doc) c.campaign_in.result c.in-Ok.ensures.found c.campaign_in.ensures

pub returns-in-Err : goal.returns-in-Err
returns-in-Err c =
    bad_text (campaign_command (add_or_change c.args.changed)) c.args.body.now c.in-Err.fault c.json_refusal.result c.refuse.result c.in-Err.ensures.fault c.json_refusal.ensures.refused c.json_refusal.ensures.fault c.refuse.ensures
