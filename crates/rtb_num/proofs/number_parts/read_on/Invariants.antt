use Rattle.std.proofs.Common.{◌≡◌, ◌+◌, ◌*◌, ◌^◌, min, take}
use Rattle.rtb_num.specs.Amounts.{number_of}
use Rattle.rtb_num.proofs.number_parts.read_on.Given as goal

abbrev pub invariant-loop-c : goal.invariant-loop-c
invariant-loop-c l = l.number ≡ min (l.fn.start * 10 ^ l.c-index + number_of (take l.c-index l.digits)) 1000000000001
