use Rattle.std.proofs.Common.{◌≡◌}
use Rattle.std.specs.List.{filter_map}
use Rattle.cnf_match.specs.Making.{kept_pred}
use Rattle.cnf_match.proofs.make.keep_clause.Given as goal

abbrev pub invariant-loop-pred : goal.invariant-loop-pred
invariant-loop-pred l = l.preds ≡ filter_map kept_pred l.yielded
