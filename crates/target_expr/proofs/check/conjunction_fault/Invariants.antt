use Rattle.std.proofs.Common.{◌≡◌, [], take}
use Rattle.std.specs.List.{flat_map, enumerate_from}
use Rattle.target_expr.specs.Kept.{pred_faults}
use Rattle.target_expr.proofs.check.conjunction_fault.Given as goal

abbrev pub invariant-loop-j : goal.invariant-loop-j
invariant-loop-j l = flat_map (pred_faults l.i l.conjunction) (take l.j (enumerate_from 0 l.conjunction)) ≡ []
