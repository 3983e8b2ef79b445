use Rattle.std.proofs.Common.{◌≡◌, ◌≤◌, ◌+◌, take}
use Rattle.cnf_match.specs.Searching.{mark_all}
use Rattle.cnf_match.proofs.find.mark_list.Given as goal

abbrev pub invariant-loop-place : goal.invariant-loop-place
invariant-loop-place g l = record {
  left : l.left ≡ mark_all l.fn.left (take l.place l.list);
  cost : l.steps ≤ l.fn.steps + l.place;
}
