use Rattle.std.proofs.Common.{◌≡◌, take}
use Rattle.std.specs.List.{fold}
use Rattle.top_match.specs.Choosing.{choose}
use Rattle.top_match.proofs.marking.choose_all.Given as goal

abbrev pub invariant-loop-scored : goal.invariant-loop-scored
invariant-loop-scored l = l.marks ≡ fold choose l.fn.marks (take l.scored-index l.chosen)
