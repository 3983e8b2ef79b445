use Rattle.std.proofs.Common.{◌≡◌, take, true}
use Rattle.std.specs.List.{enumerate_from, list_all}
use Rattle.top_match.specs.Checking.{is_right_at}
use Rattle.top_match.proofs.checking.are_right.Given as goal

abbrev pub invariant-loop-place : goal.invariant-loop-place
invariant-loop-place l = list_all (is_right_at l.exprs l.assignment l.full l.last) (take l.place (enumerate_from 0 l.marks)) ≡ true
