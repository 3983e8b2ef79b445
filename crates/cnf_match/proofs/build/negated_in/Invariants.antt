use Rattle.std.proofs.Common.{◌≡◌, take}
use Rattle.cnf_match.specs.Content.{negated_in}
use Rattle.cnf_match.proofs.build.negated_in.Given as goal

abbrev pub invariant-loop-pred : goal.invariant-loop-pred
invariant-loop-pred l = l.count ≡ negated_in (take l.pred-index l.clause)
