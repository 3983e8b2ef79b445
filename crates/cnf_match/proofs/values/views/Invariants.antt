use Rattle.std.proofs.Common.{◌≡◌, take}
use Rattle.cnf_match.proofs.values.views.Given as goal

abbrev pub invariant-loop-place : goal.invariant-loop-place
invariant-loop-place l = l.views.items ≡ take l.place l.texts
