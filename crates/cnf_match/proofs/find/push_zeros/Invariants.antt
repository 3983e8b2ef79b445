use Rattle.std.proofs.Common.{◌≡◌, ◌≤◌, ◌+◌, ◌++◌, take}
use Rattle.std.specs.List.{filter_map}
use Rattle.cnf_match.specs.Searching.{number_left}
use Rattle.cnf_match.proofs.find.push_zeros.Given as goal

abbrev pub invariant-loop-i : goal.invariant-loop-i
invariant-loop-i g l = record {
  numbers : l.numbers.items ≡ l.fn.numbers.items ++ filter_map (number_left l.left) (take l.i l.zeros);
  cost : l.steps ≤ l.fn.steps + l.i;
}
