use Rattle.std.proofs.Common.{◌≡◌, count_by, take}
use Rattle.top_match.specs.Checking.{says_chosen}
use Rattle.top_match.proofs.checking.count_chosen.Given as goal

abbrev pub invariant-loop-mark : goal.invariant-loop-mark
invariant-loop-mark l = l.count ≡ count_by says_chosen (take l.mark-index l.marks)
