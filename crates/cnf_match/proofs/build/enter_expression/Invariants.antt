use Rattle.std.proofs.Common.{take}
use Rattle.std.specs.List.{enumerate_from, flat_map}
use Rattle.cnf_match.specs.Growing.{Enters, clause_pairs}
use Rattle.cnf_match.proofs.build.enter_expression.Given as goal

abbrev pub invariant-loop-i : goal.invariant-loop-i
invariant-loop-i l = Enters (flat_map (clause_pairs l.n) (take l.i (enumerate_from 0 l.clauses))) l.fn.growing l.growing
