use Rattle.std.proofs.Common.{◌∙◌, ap}
use Rattle.top_match.specs.Certificate.{reason}
use Rattle.which_read.proofs.expressions.reason_of.Goals as goal

pub returns-in-Ok : goal.returns-in-Ok
returns-in-Ok c = λ place is.
    let (none, made) = c.in-Ok.ensures place is in
    (none, c.judge.ensures ∙ ap (reason c.args.assignment.now) made)

pub returns-in-Err : goal.returns-in-Err
returns-in-Err c = c.in-Err.ensures
