use Rattle.std.proofs.Common.{ap, ◌∙◌}
use Rattle.exact_json.specs.View.{tree_of}
use Rattle.target_expr.specs.Truth.{are_single}
use Rattle.which_read.proofs.Singles.{pairs_single}
use Rattle.which_read.proofs.assigned.assignment_in.Goals as goal

pub make-requires : goal.make-requires
make-requires c = ap are_single c.in_ok-pairs.ensures ∙ pairs_single (tree_of c.args.assigned.now)
