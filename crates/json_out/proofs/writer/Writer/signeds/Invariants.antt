use Rattle.std.proofs.Common.{◌≡◌, map, take}
use Rattle.std.specs.Fmt.{signed_decimal}
use Rattle.json_out.specs.Inside.{in_array}
use Rattle.json_out.proofs.writer.Writer.signeds.Given as goal

-- the elements so far were written
abbrev pub invariant-loop-number : goal.invariant-loop-number
invariant-loop-number l = l.self ≡ in_array l.fn.self (map signed_decimal (take l.number-index l.numbers))
