use Rattle.std.proofs.Common.{◌≡◌, [], length, take}
use Rattle.std.specs.List.{flat_map, enumerate_from}
use Rattle.cnf_match.specs.Making.{weight_fault}
use Rattle.cnf_match.proofs.Seen.{AreSeen}
use Rattle.cnf_match.proofs.check.weights_fault.Given as goal

abbrev pub invariant-loop-at : goal.invariant-loop-at
invariant-loop-at l = (flat_map (weight_fault l.weights) (take l.at (enumerate_from 0 l.weights)) ≡ []) × (AreSeen l.seen (take l.at l.weights) × (length l.seen ≡ 64))
