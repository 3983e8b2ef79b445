use Rattle.std.proofs.Common.{◌≡◌, length, take, false, nat_lt}
use Rattle.std.specs.List.{list_any}
use Rattle.cnf_match.proofs.check.has_long.Given as goal

abbrev pub invariant-loop-place : goal.invariant-loop-place
invariant-loop-place l = list_any (λ v. nat_lt 255 (length v)) (take l.place l.values) ≡ false
