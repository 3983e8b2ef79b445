use Rattle.std.proofs.Common.{◌≡◌, take}
use Rattle.conj_match.specs.Matching.{lists_at, longest}
use Rattle.conj_match.proofs.lengths.longest_in.Given as goal

abbrev pub invariant-loop-place : goal.invariant-loop-place
invariant-loop-place l = l.most ≡ longest (lists_at l.lists (take l.place-index l.chosen))
