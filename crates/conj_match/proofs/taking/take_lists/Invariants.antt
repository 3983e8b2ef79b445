use Rattle.std.proofs.Common.{◌≡◌, ◌≤◌, ◌+◌, length, take}
use Rattle.std.specs.List.{sum_by}
use Rattle.conj_match.specs.Matching.{lists_at}
use Rattle.conj_match.specs.Tally.{AreTaken, all_in}
use Rattle.conj_match.proofs.taking.take_lists.Given as goal

abbrev pub invariant-loop-place : goal.invariant-loop-place
invariant-loop-place g l = record {
  marks_len : length l.marks ≡ length l.fn.marks;
  hits_len : length l.hits ≡ length l.fn.hits;
  taken : AreTaken l.k l.fn.marks l.fn.hits (all_in (lists_at l.lists (take l.place-index l.chosen))) l.marks l.hits;
  cost : l.steps ≤ l.fn.steps + sum_by length (lists_at l.lists (take l.place-index l.chosen));
}
