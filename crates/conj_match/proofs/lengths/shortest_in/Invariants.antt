use Rattle.std.proofs.Common.{◌≤◌, ◌<◌, ℕ, [], get_or, length, Contains}
use Rattle.conj_match.specs.Matching.{lists_at}
use Rattle.conj_match.proofs.lengths.shortest_in.Given as goal

abbrev pub invariant-loop-place : goal.invariant-loop-place
invariant-loop-place l = record {
  there : l.best < length l.lists;
  member : Contains (lists_at l.lists l.chosen) (get_or l.lists l.best []);
  least : (j : ℕ) → j < l.place-index → length (get_or l.lists l.best []) ≤ length (get_or (lists_at l.lists l.chosen) j []);
}
