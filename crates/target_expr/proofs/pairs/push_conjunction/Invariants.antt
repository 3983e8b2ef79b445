use Rattle.std.proofs.Common.{◌≡◌, ◌+◌, ◌++◌, take, length}
use Rattle.std.specs.List.{flat_map}
use Rattle.target_expr.specs.Pairs.{pred_pairs}
use Rattle.target_expr.proofs.pairs.push_conjunction.Given as goal

abbrev pub invariant-loop-pred : goal.invariant-loop-pred
invariant-loop-pred g l = record {
  value : l.pairs ≡ l.fn.pairs ++ flat_map (pred_pairs l.n l.size) (take l.pred-index l.conjunction);
  steps : l.steps ≡ l.fn.steps + length (flat_map (pred_pairs l.n l.size) (take l.pred-index l.conjunction));
}
