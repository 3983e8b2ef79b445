use Rattle.std.proofs.Common.{◌-◌, ◌≤◌}
use Rattle.budget_book.proofs.Settled.{free_front}
use Rattle.budget_book.proofs.forgetting.settled_among.Given as goal

abbrev pub invariant-loop-count : goal.invariant-loop-count
invariant-loop-count l = record {
  low : l.count ≤ l.most;
  front : l.count ≤ free_front l.moment l.rows.items;
}

abbrev pub decreases-loop-count : goal.decreases-loop-count
decreases-loop-count l = l.most - l.count
