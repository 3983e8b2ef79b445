use Rattle.std.proofs.Common.{◌≡◌, ◌++◌, replicate}
use Rattle.conj_index.proofs.build.push_times.Given as goal

abbrev pub invariant-loop : goal.invariant-loop
invariant-loop l = l.owners ≡ l.fn.owners ++ replicate l.counter l.number
