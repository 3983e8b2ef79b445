use Rattle.std.proofs.Common.{◌≡◌, ◌++◌, replicate}
use Rattle.cnf_match.proofs.build.push_ones.Given as goal

abbrev pub invariant-loop : goal.invariant-loop
invariant-loop l = l.all ≡ l.fn.all ++ replicate l.counter 1
