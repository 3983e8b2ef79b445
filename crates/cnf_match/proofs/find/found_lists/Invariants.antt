use Rattle.std.proofs.Common.{◌≡◌, map, take}
use Rattle.cnf_match.specs.Find.{found_lists}
use Rattle.cnf_match.proofs.find.found_lists.Given as goal

abbrev pub invariant-loop-attr : goal.invariant-loop-attr
invariant-loop-attr l = map (λ v. v.now) l.lists.items ≡ found_lists (take l.attr-index l.pairs) l.index
