use Rattle.std.proofs.Common.{◌≡◌, ◌≤◌, ◌+◌, [], All, length, take}
use Rattle.std.specs.List.{sum_by}
use Rattle.postings.specs.Order.{IsRising}
use Rattle.conj_match.specs.Matching.{lists_at}
use Rattle.conj_match.specs.Tally.{AreTallied, all_in}
use Rattle.conj_match.proofs.marking.mark_lists.Given as goal

abbrev pub invariant-loop-place : goal.invariant-loop-place
invariant-loop-place g l = record {
  len : length l.marks ≡ length l.fn.marks;
  rising : All IsRising (lists_at l.lists (take l.place-index l.chosen));
  tallied : AreTallied l.fn.marks [] → AreTallied l.marks (all_in (lists_at l.lists (take l.place-index l.chosen)));
  cost : l.steps ≤ l.fn.steps + sum_by length (lists_at l.lists (take l.place-index l.chosen));
}
