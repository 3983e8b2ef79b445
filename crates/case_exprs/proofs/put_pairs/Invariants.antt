use Rattle.std.proofs.Common.{IsTrue}
use Rattle.target_expr.specs.Truth.{are_single}
use Rattle.case_exprs.proofs.put_pairs.Given as goal

abbrev pub invariant-loop-pair : goal.invariant-loop-pair
invariant-loop-pair l = IsTrue (are_single l.pairs)
