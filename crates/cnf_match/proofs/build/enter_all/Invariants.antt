use Rattle.std.proofs.Common.{take}
use Rattle.std.specs.List.{enumerate_from, flat_map}
use Rattle.cnf_match.specs.Growing.{Enters, expression_pairs}
use Rattle.cnf_match.proofs.build.enter_all.Given as goal

abbrev pub invariant-loop-n : goal.invariant-loop-n
invariant-loop-n l = Enters (flat_map expression_pairs (take l.n (enumerate_from 0 l.exprs))) l.fn.growing l.growing
