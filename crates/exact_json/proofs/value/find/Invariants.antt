use Rattle.std.proofs.Common.{◌≡◌, ◌≤◌, length, take}
use Rattle.exact_json.specs.Tree.{get_pair}
use Rattle.exact_json.specs.View.{pairs_of}
use Rattle.exact_json.proofs.value.find.Given as goal

abbrev pub invariant-loop-left : goal.invariant-loop-left
invariant-loop-left l = record { same : get_pair l.name (pairs_of (take l.left l.members)) ≡ get_pair l.name (pairs_of l.members); within : l.left ≤ length l.members }

abbrev pub decreases-loop-left : goal.decreases-loop-left
decreases-loop-left l = l.left
