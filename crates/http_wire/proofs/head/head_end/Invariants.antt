use Rattle.std.proofs.Common.{◌≤◌, ◌-◌, length}
use Rattle.http_wire.proofs.Cuts.{IsSeenFrom}
use Rattle.http_wire.proofs.head.head_end.Given as goal

abbrev pub invariant-lines : goal.invariant-lines
invariant-lines l = record {
  seen : IsSeenFrom l.bytes l.at;
  within : l.at ≤ length l.bytes;
}

abbrev pub decreases-lines : goal.decreases-lines
decreases-lines l = length l.bytes - l.at
