use Rattle.std.proofs.Common.{◌<◌}
use Rattle.rtb_bench.proofs.generated.raw_conjunction.Given as goal

abbrev pub invariant-loop-i : goal.invariant-loop-i
invariant-loop-i l = l.place < 8
