use Rattle.exact_json.specs.Docs.{doc_tree}
use Rattle.exchange_run.specs.Making.{campaigns_named}
use Rattle.exchange_run.proofs.Replies.{accepted, rejected}
use Rattle.exchange_run.proofs.try_command.doc_reply.Goals as goal

pub returns-in-Ok : goal.returns-in-Ok
returns-in-Ok c = accepted (campaigns_named c.args.words.now) (doc_tree c.args.doc.now) c.in-Ok.request c.request_reply.result c.in-Ok.ensures.first_fault.0 c.in-Ok.ensures.first_fault.1 c.request_reply.ensures

pub returns-in-Err : goal.returns-in-Err
returns-in-Err c = rejected (campaigns_named c.args.words.now) (doc_tree c.args.doc.now) c.in-Err.fault c.request_refusal.result c.in-Err.ensures.first_fault c.request_refusal.ensures.refused c.request_refusal.ensures.fault
