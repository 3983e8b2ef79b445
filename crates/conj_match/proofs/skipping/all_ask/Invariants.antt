use Rattle.std.proofs.Common.{◌≡◌, ◌≤◌, ◌+◌, ◌*◌, true, take}
use Rattle.std.specs.List.{list_all}
use Rattle.conj_match.specs.Matching.{digits, lists_at, longest}
use Rattle.conj_match.specs.Skip.{is_asked}
use Rattle.conj_match.proofs.skipping.all_ask.Given as goal

abbrev pub invariant-loop-place : goal.invariant-loop-place
invariant-loop-place g l = record {
  asked : list_all (is_asked l.id) (lists_at l.lists (take l.place-index l.chosen)) ≡ true;
  cost : l.steps ≤ l.fn.steps + l.place-index * (2 * digits (longest (lists_at l.lists l.chosen)) + 3);
}
