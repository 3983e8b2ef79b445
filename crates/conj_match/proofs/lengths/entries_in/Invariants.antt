use Rattle.std.proofs.Common.{◌≡◌, ◌≤◌, ◌*◌, length, take}
use Rattle.std.specs.List.{sum_by}
use Rattle.conj_match.specs.Matching.{lists_at}
use Rattle.conj_match.proofs.lengths.entries_in.Given as goal

abbrev pub invariant-loop-place : goal.invariant-loop-place
invariant-loop-place l = record {
  sum : l.entries ≡ sum_by length (lists_at l.lists (take l.place-index l.chosen));
  small : l.entries ≤ 18446744073709551616 * l.place-index;
}
