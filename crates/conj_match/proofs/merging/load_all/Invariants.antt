use Rattle.std.proofs.Common.{◌≡◌, ◌≤◌, ◌+◌, All, map, take}
use Rattle.conj_match.specs.Matching.{lists_at}
use Rattle.conj_match.specs.Merge.{Stands, entries_of}
use Rattle.conj_match.proofs.merging.load_all.Given as goal

abbrev pub invariant-loop-place : goal.invariant-loop-place
invariant-loop-place g l = record {
  lists : map entries_of l.cursors.items ≡ lists_at l.lists (take l.place-index l.chosen);
  stand : All (Stands 0) l.cursors.items;
  cost : l.steps ≤ l.fn.steps + l.place-index;
}
