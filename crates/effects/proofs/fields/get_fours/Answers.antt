use Rattle.byte_fields.specs.Encodings.{FitsFour, four_bytes}
use Rattle.byte_fields.proofs.Codes.{read_no_first, read_no_second}
use Rattle.byte_fields.proofs.Numbers.{four_code}
use Rattle.effects.proofs.fields.get_fours.Goals as goal

pub returns-in_err-count : goal.returns-in_err-count
returns-in_err-count c =
    rw c.from_residual.ensures (read_no_first FitsFour four_bytes FitsFour four_bytes c.args.bytes.now c.args.place c.in_err-count.ensures)

pub returns-in_err-seconds : goal.returns-in_err-seconds
returns-in_err-seconds c =
    rw c.from_residual-in_err-seconds.ensures (read_no_second FitsFour four_bytes FitsFour four_bytes four_code c.args.bytes.now c.args.place c.in_ok-count.count c.in_ok-count.next c.in_ok-count.ensures c.in_err-seconds.ensures)
