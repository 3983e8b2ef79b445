use Rattle.std.proofs.Common.{◌≡◌, map}
use Rattle.conj_index.proofs.growing.posting_lists.Given as goal

abbrev pub invariant-loop-list : goal.invariant-loop-list
invariant-loop-list l = l.made ≡ map (λ v. v.items) l.yielded
