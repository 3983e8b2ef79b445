use Rattle.std.proofs.Common.{◌≡◌, [], take}
use Rattle.std.specs.List.{flat_map, enumerate_from}
use Rattle.cnf_match.specs.Making.{clause_faults}
use Rattle.cnf_match.proofs.check.clauses_fault.Given as goal

abbrev pub invariant-loop-i : goal.invariant-loop-i
invariant-loop-i l = flat_map clause_faults (take l.i (enumerate_from 0 l.raw)) ≡ []
