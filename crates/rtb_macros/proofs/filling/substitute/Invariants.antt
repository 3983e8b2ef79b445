use Rattle.std.proofs.Common.{◌≡◌, ◌++◌, length}
use Rattle.rtb_macros.specs.Macros.{filled_in}
use Rattle.rtb_macros.proofs.filling.substitute.Given as goal

abbrev pub invariant-loop-rest : goal.invariant-loop-rest
invariant-loop-rest l = filled_in l.values l.markup ≡ l.out ++ filled_in l.values l.rest

abbrev pub decreases-loop-rest : goal.decreases-loop-rest
decreases-loop-rest l = length l.rest
