use Rattle.std.proofs.Common.{◌≡◌, All, length}
use Rattle.httparse.specs.Spans.{IsHeaderWithin}
use Rattle.http_wire.specs.Numbers.{lengths}
use Rattle.http_wire.proofs.fields.first_length.Given as goal

abbrev pub invariant-loop-rest : goal.invariant-loop-rest
invariant-loop-rest l = record {
  same : lengths l.head l.fields ≡ lengths l.head l.rest;
  within : All (IsHeaderWithin (length l.head)) l.rest;
}

abbrev pub decreases-loop-rest : goal.decreases-loop-rest
decreases-loop-rest l = length l.rest
