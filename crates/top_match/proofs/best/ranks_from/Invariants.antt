use Rattle.std.proofs.Common.{◌≡◌, map, take}
use Rattle.std.specs.List.{enumerate_from, filter_map}
use Rattle.top_match.specs.Choosing.{scored_by, scored_of}
use Rattle.top_match.proofs.best.ranks_from.Given as goal

abbrev pub invariant-loop-place : goal.invariant-loop-place
invariant-loop-place l = map scored_of l.ranks.items ≡ filter_map scored_by (take l.place (enumerate_from 1 l.reasons))
