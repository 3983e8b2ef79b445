use Rattle.std.proofs.Common.{◌≡◌, ◌+◌, ◌++◌, take, length}
use Rattle.target_expr.specs.Pairs.{pairs_by}
use Rattle.target_expr.proofs.pairs.push_pred.Given as goal

abbrev pub invariant-loop-value : goal.invariant-loop-value
invariant-loop-value g l = record {
  value : l.pairs ≡ l.fn.pairs ++ pairs_by l.n l.size l.pred (take l.value-index l.value-items);
  steps : l.steps ≡ l.fn.steps + length (pairs_by l.n l.size l.pred (take l.value-index l.value-items));
}
