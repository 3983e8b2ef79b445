use Rattle.std.proofs.Common.{◌≡◌, ◌++◌, map, take}
use Rattle.cnf_match.specs.Content.{negated_in}
use Rattle.cnf_match.proofs.build.push_counts.Given as goal

abbrev pub invariant-loop-clause : goal.invariant-loop-clause
invariant-loop-clause l = l.all ≡ l.fn.all ++ map negated_in (take l.clause-index l.clauses)
