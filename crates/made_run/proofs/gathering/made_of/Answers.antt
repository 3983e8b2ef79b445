use Rattle.std.proofs.Common.{◌∙◌}
use Rattle.std.proofs.lemmas.Result.{IfOk-weaker}
use Rattle.made_run.proofs.SoFar.{made_so}
use Rattle.made_run.proofs.gathering.made_of.Goals as goal

pub returns-in-Ok : goal.returns-in-Ok
returns-in-Ok c = λ start n is.
    let (far, reserved) = rw c.in-Ok.is at is in
    IfOk-weaker c.with_trace.result _ _ (λ made kept. let (trace, sold, no_bid, is) = kept in made_so start n c.args.gathering made far trace sold no_bid (is ∙ reserved)) c.with_trace.ensures
