use Rattle.std.proofs.Common.{◌≡◌, ◌+◌, take, length}
use Rattle.std.specs.List.{flat_map, enumerate_from}
use Rattle.target_expr.specs.Pairs.{conjunction_pairs}
use Rattle.target_expr.proofs.expr.Expr.pairs.Given as goal

abbrev pub invariant-loop-n : goal.invariant-loop-n
invariant-loop-n g l = record {
  value : l.pairs ≡ flat_map conjunction_pairs (take l.n (enumerate_from 0 l.self));
  steps : l.steps ≡ l.fn.steps + length (flat_map conjunction_pairs (take l.n (enumerate_from 0 l.self)));
}
