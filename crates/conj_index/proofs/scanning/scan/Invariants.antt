use Rattle.std.proofs.Common.{◌≡◌, ◌+◌, ◌≤◌, take}
use Rattle.conj_index.specs.Campaigns.{conjunctions_in}
use Rattle.conj_index.specs.Find.{true_under}
use Rattle.conj_index.proofs.scanning.scan.Given as goal

abbrev pub invariant-loop-number : goal.invariant-loop-number
invariant-loop-number g l = record {
  found : l.numbers ≡ true_under l.assignment (take l.number-index l.added);
  cost : l.steps ≤ l.fn.steps + conjunctions_in (take l.number-index l.added);
}
