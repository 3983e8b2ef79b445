use Rattle.std.proofs.Common.{ap, ◌∙◌}
use Rattle.std.proofs.lemmas.Result.{IfOk-weaker}
use Rattle.made_run.proofs.Taken.{all_posted}
use Rattle.made_run.specs.Runs.{reserved_in}
use Rattle.made_run.proofs.gathering.Gathering.run.Goals as goal

pub returns : goal.returns
returns g c =
    let far = c.in_ok-requests.ensures.gathered _ c.in_ok-campaigns.ensures.gathered in
    let all = all_posted c.args.start c.args.requests c.new-drawn.result c.campaigns.new.drawn c.requests.new.self c.new-drawn.ensures.start c.in_ok-campaigns.ensures.drawn far in
    IfOk-weaker c.reserved_in.result _ _ (λ r is. (all, is ∙ ap reserved_in c.book.ensures.sales)) c.reserved_in.ensures
