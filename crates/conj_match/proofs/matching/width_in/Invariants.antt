use Rattle.std.proofs.Common.{◌≤◌, ◌+◌, ◌^◌, All, length, take}
use Rattle.std.specs.List.{sum_by}
use Rattle.conj_match.specs.Matching.{lists_at}
use Rattle.conj_match.specs.Tally.{IsBelow}
use Rattle.conj_match.proofs.matching.width_in.Given as goal

abbrev pub invariant-loop-place : goal.invariant-loop-place
invariant-loop-place g l = record {
  below : All (IsBelow l.width) (lists_at l.lists (take l.place-index l.chosen));
  short : l.width ≤ 2 ^ 32;
  cost : l.steps ≤ l.fn.steps + l.place-index;
  few : l.steps ≤ l.fn.steps + sum_by length (lists_at l.lists (take l.place-index l.chosen));
}
