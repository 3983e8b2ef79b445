use Rattle.exact_json.specs.Docs.{doc_tree}
use Rattle.command_read.proofs.Readings.{auction, bad_request}
use Rattle.command_read.proofs.bodies.request_in.Goals as goal

pub returns-in-Ok : goal.returns-in-Ok
returns-in-Ok c = auction (doc_tree c.args.doc.now) c.in-Ok.request c.in-Ok.ensures.first_fault.0 c.in-Ok.ensures.first_fault.1

pub returns-in-Err : goal.returns-in-Err
returns-in-Err c =
    bad_request (doc_tree c.args.doc.now) c.in-Err.fault c.request_refusal.result c.refuse.result c.in-Err.ensures.first_fault c.request_refusal.ensures.refused c.request_refusal.ensures.fault c.refuse.ensures
