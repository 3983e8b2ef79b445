use Rattle.std.proofs.Common.{◌≡◌, ◌≤◌, ◌+◌, ◌++◌, drop, filter, sum_by}
use Rattle.index_versions.specs.Touched.{conjunctions_of, is_true_at}
use Rattle.index_versions.proofs.touched.true_among.Given as goal

-- what is left comes behind the numbers, and the whole stays the same
abbrev pub invariant-loop-number : goal.invariant-loop-number
invariant-loop-number g l = record {
  numbers : l.numbers.items ++ filter (is_true_at l.assignment l.table.campaigns) (drop l.number-index l.touched) ≡ filter (is_true_at l.assignment l.table.campaigns) l.touched;
  cost : l.steps + sum_by (conjunctions_of l.table.campaigns) (drop l.number-index l.touched) ≤ l.fn.steps + sum_by (conjunctions_of l.table.campaigns) l.touched;
}
