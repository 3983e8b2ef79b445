use Rattle.std.proofs.Common.{◌≡◌}
use Rattle.std.specs.List.{filter_map}
use Rattle.cnf_match.specs.Making.{kept_weight}
use Rattle.cnf_match.proofs.make.keep_weights.Given as goal

abbrev pub invariant-loop-weight : goal.invariant-loop-weight
invariant-loop-weight l = l.kept ≡ filter_map kept_weight l.yielded
