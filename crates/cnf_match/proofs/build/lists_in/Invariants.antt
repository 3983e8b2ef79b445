use Rattle.std.proofs.Common.{◌≡◌, map}
use Rattle.cnf_match.proofs.build.lists_in.Given as goal

abbrev pub invariant-loop-list : goal.invariant-loop-list
invariant-loop-list l = l.made ≡ map (λ v. v.items) l.yielded
