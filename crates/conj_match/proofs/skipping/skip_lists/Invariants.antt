use Rattle.std.proofs.Common.{◌≤◌, ◌+◌, ◌*◌}
use Rattle.conj_match.specs.Matching.{digits, lists_at, longest}
use Rattle.conj_match.specs.Skip.{IsSkipped}
use Rattle.conj_match.proofs.skipping.skip_lists.Given as goal

abbrev pub invariant-loop-place : goal.invariant-loop-place
invariant-loop-place g l = record {
  found : IsSkipped (lists_at l.lists l.chosen) l.k l.list l.place l.ids.items;
  cost : l.steps ≤ l.fn.steps + l.place * (l.k * (2 * digits (longest (lists_at l.lists l.chosen)) + 3) + 1);
}
