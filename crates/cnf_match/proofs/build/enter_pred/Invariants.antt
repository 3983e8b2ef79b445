use Rattle.std.proofs.Common.{map, take}
use Rattle.cnf_match.specs.Growing.{Enters, value_pair}
use Rattle.cnf_match.proofs.build.enter_pred.Given as goal

abbrev pub invariant-loop-place : goal.invariant-loop-place
invariant-loop-place l = Enters (map (value_pair l.n l.i l.pred) (take l.place l.pred.values)) l.fn.growing l.growing
