use Rattle.std.proofs.Common.{◌≡◌, take, false}
use Rattle.std.specs.List.{list_any}
use Rattle.target_expr.specs.Truth.{pred_holds}
use Rattle.cnf_match.proofs.truth.clause_holds.Given as goal

abbrev pub invariant-loop-pred : goal.invariant-loop-pred
invariant-loop-pred l = list_any (pred_holds l.assignment) (take l.pred-index l.clause) ≡ false
