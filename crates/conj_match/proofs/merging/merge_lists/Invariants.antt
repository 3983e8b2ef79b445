use Rattle.std.proofs.Common.{◌≤◌, ◌+◌, ℕ, length, sum_by}
use Rattle.conj_match.specs.Matching.{lists_at}
use Rattle.conj_match.specs.Merge.{Decided, IsLeast, left_in}
use Rattle.conj_match.proofs.merging.merge_lists.Given as goal

abbrev pub invariant-loop-next : goal.invariant-loop-next
invariant-loop-next g l = record {
  decided : (b : ℕ) × Decided (lists_at l.lists l.chosen) l.k l.cursors.items l.ids.items b;
  least : IsLeast l.cursors.items l.next;
  cost : l.steps + left_in l.cursors.items ≤ l.fn.steps + (sum_by length (lists_at l.lists l.chosen) + length l.chosen);
}

abbrev pub decreases-loop-next : goal.decreases-loop-next
decreases-loop-next g l = left_in l.cursors.items
