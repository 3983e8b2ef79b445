use Rattle.std.proofs.Common.{◌≡◌, ◌≤◌, ◌*◌, length, take}
use Rattle.std.specs.List.{sum_by}
use Rattle.campaign.proofs.copy.lengths.Given as goal

abbrev pub invariant-loop-text : goal.invariant-loop-text
invariant-loop-text l = (l.sum ≡ sum_by length (take l.text-index l.texts)) × (l.sum ≤ l.text-index * 255)
