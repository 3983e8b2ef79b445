use Rattle.std.proofs.Common.{◌≡◌, map, take}
use Rattle.std.specs.List.{filter_map}
use Rattle.top_match.specs.Choosing.{scored_at, scored_of}
use Rattle.top_match.proofs.best.ranks_of.Given as goal

abbrev pub invariant-loop-number : goal.invariant-loop-number
invariant-loop-number l = map scored_of l.ranks.items ≡ filter_map (scored_at l.exprs l.assignment) (take l.number-index l.found)
