use Rattle.std.proofs.Common.{ap}
use Rattle.exact_json.specs.View.{tree_of}
use Rattle.which_read.specs.Made.{judged_in, with_next}
use Rattle.which_read.specs.Request.{expression_at}
use Rattle.which_read.proofs.Made.{clean}
use Rattle.which_read.proofs.expressions.enter.Goals as goal

pub returns : goal.returns
returns c =
    let e = c.in_ok-written.ensures in
    clean (expression_at c.args.i (tree_of c.args.value.now)).faults _ _ _ e.0 (ap (λ w. with_next c.args.assignment.now c.args.i w (judged_in c.args.judging.now)) e.1) c.add.ensures
