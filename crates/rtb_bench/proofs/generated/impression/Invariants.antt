use Rattle.std.proofs.Common.{IsTrue}
use Rattle.target_expr.specs.Truth.{are_single}
use Rattle.rtb_bench.proofs.generated.impression.Given as goal

abbrev pub invariant-loop-i : goal.invariant-loop-i
invariant-loop-i l = IsTrue (are_single l.pairs)
