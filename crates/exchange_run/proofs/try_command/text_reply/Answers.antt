use Rattle.exact_json.specs.Docs.{doc_tree}
use Rattle.exchange_run.specs.Making.{campaigns_named}
use Rattle.exchange_run.proofs.Replies.{found, refused}
use Rattle.exchange_run.proofs.try_command.text_reply.Goals as goal

pub returns-in-Ok : goal.returns-in-Ok
returns-in-Ok c =
    found (campaigns_named c.args.words.now) c.args.bytes.now (doc_tree c.in-Ok.doc) c.doc_reply.result c.requires.fits c.in-Ok.ensures.found c.doc_reply.ensures

pub returns-in-Err : goal.returns-in-Err
returns-in-Err c =
    refused (campaigns_named c.args.words.now) c.args.bytes.now c.json_refusal.result c.in-Err.fault c.requires.fits c.in-Err.ensures.fault c.json_refusal.ensures.refused c.json_refusal.ensures.fault
