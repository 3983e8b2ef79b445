use Rattle.std.proofs.Common.{◌≡◌, ◌≤◌, ◌+◌, length, map, take}
use Rattle.std.specs.List.{filter_map, flat_map, sum_by}
use Rattle.cnf_match.specs.Searching.{number_left}
use Rattle.cnf_match.proofs.find.numbers_of.Given as goal

abbrev pub invariant-loop-list : goal.invariant-loop-list
invariant-loop-list g l = record {
  numbers : l.numbers.items ≡ filter_map (number_left l.left) (map (λ e. e.expression) (flat_map (λ v. v.now) (take l.list-index l.lists)));
  cost : l.steps ≤ l.fn.steps + sum_by (λ v. length v.now) (take l.list-index l.lists);
}
