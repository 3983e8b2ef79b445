use Rattle.std.proofs.Common.{◌≡◌, [], take}
use Rattle.std.specs.List.{flat_map, enumerate_from}
use Rattle.target_expr.specs.Kept.{conjunction_faults}
use Rattle.target_expr.proofs.check.first_fault.Given as goal

abbrev pub invariant-loop-i : goal.invariant-loop-i
invariant-loop-i l = flat_map conjunction_faults (take l.i (enumerate_from 0 l.raw)) ≡ []
