use Rattle.std.proofs.Common.{◌≡◌, take}
use Rattle.std.specs.List.{filter_map}
use Rattle.exact_json.specs.View.{tree_of}
use Rattle.target_expr.specs.Attributes.{attributes}
use Rattle.which_read.specs.Assigned.{pair_of}
use Rattle.which_read.proofs.assigned.pairs_in.Given as goal

abbrev pub invariant-loop-before : goal.invariant-loop-before
invariant-loop-before l = l.pairs ≡ filter_map (pair_of (tree_of l.assigned)) (take l.before attributes)
