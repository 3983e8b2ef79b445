use Rattle.byte_fields.specs.Codes.{BothValid, both_bytes}
use Rattle.byte_fields.specs.Encodings.{FitsEight, eight_bytes}
use Rattle.byte_fields.proofs.Codes.{both_code, read_no_first, read_no_second}
use Rattle.byte_fields.proofs.Numbers.{eight_code}
use Rattle.effects.specs.Bytes.{IsAmount}
use Rattle.effects.proofs.PartCodes.{amount_code}
use Rattle.effects.proofs.fields.get_three_counts.Goals as goal

pub returns-in_err-two : goal.returns-in_err-two
returns-in_err-two c =
    rw c.from_residual.ensures (read_no_first (BothValid IsAmount FitsEight) (both_bytes eight_bytes eight_bytes) FitsEight eight_bytes c.args.bytes.now c.args.place c.in_err-two.ensures)

pub returns-in_err-lost : goal.returns-in_err-lost
returns-in_err-lost c =
    rw c.from_residual-in_err-lost.ensures (read_no_second (BothValid IsAmount FitsEight) (both_bytes eight_bytes eight_bytes) FitsEight eight_bytes (both_code IsAmount eight_bytes FitsEight eight_bytes amount_code eight_code) c.args.bytes.now c.args.place c.in_ok-two.two c.in_ok-two.next c.in_ok-two.ensures c.in_err-lost.ensures)
