use Rattle.byte_fields.specs.Encodings.{FitsEight, eight_bytes}
use Rattle.byte_fields.proofs.Codes.{read_no_first, read_no_second}
use Rattle.effects.specs.Bytes.{IsAmount}
use Rattle.effects.proofs.PartCodes.{amount_code}
use Rattle.effects.proofs.fields.get_two_counts.Goals as goal

pub returns-in_err-spent : goal.returns-in_err-spent
returns-in_err-spent c =
    rw c.from_residual.ensures (read_no_first IsAmount eight_bytes FitsEight eight_bytes c.args.bytes.now c.args.place c.in_err-spent.ensures)

pub returns-in_err-billed : goal.returns-in_err-billed
returns-in_err-billed c =
    rw c.from_residual-in_err-billed.ensures (read_no_second IsAmount eight_bytes FitsEight eight_bytes amount_code c.args.bytes.now c.args.place c.in_ok-spent.spent c.in_ok-spent.next c.in_ok-spent.ensures c.in_err-billed.ensures)
