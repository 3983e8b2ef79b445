use Rattle.exact_json.specs.Docs.{doc_tree}
use Rattle.which_run.proofs.Replies.{accepted, rejected}
use Rattle.which_run.proofs.reply.doc_reply.Goals as goal

pub returns-in-Ok : goal.returns-in-Ok
returns-in-Ok c = accepted (doc_tree c.args.doc.now) c.in-Ok.asked c.request_reply.result c.in-Ok.ensures.answer.0 c.in-Ok.ensures.answer.1 c.request_reply.ensures

pub returns-in-Err : goal.returns-in-Err
returns-in-Err c = rejected (doc_tree c.args.doc.now) c.in-Err.fault c.request_refusal.result c.in-Err.ensures.answer c.request_refusal.ensures.refused c.request_refusal.ensures.fault
