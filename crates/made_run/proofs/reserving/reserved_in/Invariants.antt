use Rattle.std.proofs.Common.{◌≡◌, take}
use Rattle.made_run.specs.Runs.{reserved_in}
use Rattle.made_run.proofs.reserving.reserved_in.Given as goal

abbrev pub invariant-loop-place : goal.invariant-loop-place
invariant-loop-place l = l.sum ≡ reserved_in (take l.place l.book.sales)
