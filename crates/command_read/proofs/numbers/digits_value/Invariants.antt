use Rattle.std.proofs.Common.{◌≡◌, ◌-◌, ◌^◌, min, take}
use Rattle.rtb_num.specs.Amounts.{number_of}
use Rattle.command_read.proofs.numbers.digits_value.Given as goal

abbrev pub invariant-loop-c : goal.invariant-loop-c
invariant-loop-c l = l.number ≡ min (number_of (take l.c-index l.digits)) (2 ^ 128 - 1)
