use Rattle.std.proofs.Common.{◌≡◌, [], take}
use Rattle.std.specs.List.{flat_map, enumerate_from}
use Rattle.cnf_match.specs.Making.{pred_faults}
use Rattle.cnf_match.proofs.check.clause_fault.Given as goal

abbrev pub invariant-loop-j : goal.invariant-loop-j
invariant-loop-j l = flat_map (pred_faults l.i) (take l.j (enumerate_from 0 l.clause)) ≡ []
