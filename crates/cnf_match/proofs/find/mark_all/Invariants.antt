use Rattle.std.proofs.Common.{◌≡◌, ◌≤◌, ◌+◌, length, take}
use Rattle.std.specs.List.{flat_map, sum_by}
use Rattle.cnf_match.specs.Searching.{mark_all}
use Rattle.cnf_match.proofs.find.mark_all.Given as goal

abbrev pub invariant-loop-list : goal.invariant-loop-list
invariant-loop-list g l = record {
  left : l.left.items ≡ mark_all l.negated (flat_map (λ v. v.now) (take l.list-index l.lists));
  cost : l.steps ≤ l.fn.steps + sum_by (λ v. length v.now) (take l.list-index l.lists);
}
