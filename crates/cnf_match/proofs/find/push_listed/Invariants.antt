use Rattle.std.proofs.Common.{◌≡◌, ◌≤◌, ◌+◌, ◌++◌, map, take}
use Rattle.std.specs.List.{filter_map}
use Rattle.cnf_match.specs.Searching.{number_left}
use Rattle.cnf_match.proofs.find.push_listed.Given as goal

abbrev pub invariant-loop-place : goal.invariant-loop-place
invariant-loop-place g l = record {
  numbers : l.numbers.items ≡ l.fn.numbers.items ++ filter_map (number_left l.left) (map (λ e. e.expression) (take l.place l.list));
  cost : l.steps ≤ l.fn.steps + l.place;
}
