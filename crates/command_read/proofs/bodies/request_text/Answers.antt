use Rattle.exact_json.specs.Docs.{doc_tree}
use Rattle.command_read.specs.Commands.{request_command}
use Rattle.command_read.proofs.Readings.{bad_text, found_in}
use Rattle.command_read.proofs.bodies.request_text.Goals as goal

pub returns-in-Ok : goal.returns-in-Ok
returns-in-Ok c = found_in request_command c.args.body.now (doc_tree c.in-Ok.doc) c.request_in.result c.in-Ok.ensures.found c.request_in.ensures

pub returns-in-Err : goal.returns-in-Err
returns-in-Err c = bad_text request_command c.args.body.now c.in-Err.fault c.json_refusal.result c.refuse.result c.in-Err.ensures.fault c.json_refusal.ensures.refused c.json_refusal.ensures.fault c.refuse.ensures
