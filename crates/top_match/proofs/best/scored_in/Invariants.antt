use Rattle.std.proofs.Common.{◌≡◌, map, take}
use Rattle.top_match.specs.Choosing.{scored_of}
use Rattle.top_match.proofs.best.scored_in.Given as goal

abbrev pub invariant-loop-rank : goal.invariant-loop-rank
invariant-loop-rank l = l.all ≡ map scored_of (take l.rank-index l.ranks)
