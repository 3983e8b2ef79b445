use Rattle.std.proofs.Common.{◌≡◌, take}
use Rattle.std.specs.List.{enumerate_from, filter_map}
use Rattle.cnf_match.specs.Content.{zero_place}
use Rattle.cnf_match.proofs.build.zero_list.Given as goal

abbrev pub invariant-loop-n : goal.invariant-loop-n
invariant-loop-n l = l.zeros.items ≡ filter_map zero_place (take l.n (enumerate_from 0 l.exprs))
