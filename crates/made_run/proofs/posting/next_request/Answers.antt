use Rattle.std.specs.Prelude.{codes}
use Rattle.made_run.proofs.Posts.{with_body, with_request}
use Rattle.made_run.proofs.SoFar.{on_ok}
use Rattle.made_run.proofs.posting.next_request.Goals as goal

pub returns-clause-post : goal.returns-clause-post
returns-clause-post c = with_body (codes "/openrtb2/auction") c.request_into.new.body c.args.message.now c.requires.post

pub returns-clause-message : goal.returns-clause-message
returns-clause-message c =
    let body = c.request_into.new.body in
    on_ok c.request_into.result _ _ c.request_into.ensures.text (λ drawn. with_request c.args.number c.args.drawn.now body c.args.message.now c.requires.post drawn)
