use Rattle.std.specs.Prelude.{codes}
use Rattle.std.proofs.lemmas.Result.{IfOk-weaker}
use Rattle.made_run.proofs.Posts.{has_body}
use Rattle.made_run.proofs.posting.blank_request.Goals as goal

pub returns : goal.returns
returns c = IfOk-weaker c.post.result _ _ (λ m is. has_body (codes "/openrtb2/auction") c.new.result m is) c.post.ensures
