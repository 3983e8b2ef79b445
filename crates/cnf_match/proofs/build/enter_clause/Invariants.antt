use Rattle.std.proofs.Common.{take}
use Rattle.std.specs.List.{flat_map}
use Rattle.cnf_match.specs.Growing.{Enters, pred_pairs}
use Rattle.cnf_match.proofs.build.enter_clause.Given as goal

abbrev pub invariant-loop-pred : goal.invariant-loop-pred
invariant-loop-pred l = Enters (flat_map (pred_pairs l.n l.i) (take l.pred-index l.clause)) l.fn.growing l.growing
