use Rattle.std.proofs.Common.{◌≡◌, length}
use Rattle.rtb_bench.proofs.generated.expr.Given as goal

abbrev pub invariant-loop : goal.invariant-loop
invariant-loop l = length l.raw ≡ l.counter
