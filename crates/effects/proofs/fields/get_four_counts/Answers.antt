use Rattle.byte_fields.specs.Codes.{BothValid, both_bytes}
use Rattle.byte_fields.specs.Encodings.{FitsEight, eight_bytes}
use Rattle.byte_fields.proofs.Codes.{both_code, read_no_first, read_no_second}
use Rattle.byte_fields.proofs.Numbers.{eight_code}
use Rattle.effects.specs.Bytes.{IsAmount}
use Rattle.effects.proofs.PartCodes.{amount_code}
use Rattle.effects.proofs.fields.get_four_counts.Goals as goal

pub returns-in_err-three : goal.returns-in_err-three
returns-in_err-three c =
    rw c.from_residual.ensures (read_no_first (BothValid (BothValid IsAmount FitsEight) FitsEight) (both_bytes (both_bytes eight_bytes eight_bytes) eight_bytes) FitsEight eight_bytes c.args.bytes.now c.args.place c.in_err-three.ensures)

pub returns-in_err-expired : goal.returns-in_err-expired
returns-in_err-expired c =
    rw c.from_residual-in_err-expired.ensures (read_no_second (BothValid (BothValid IsAmount FitsEight) FitsEight) (both_bytes (both_bytes eight_bytes eight_bytes) eight_bytes) FitsEight eight_bytes (both_code (BothValid IsAmount FitsEight) (both_bytes eight_bytes eight_bytes) FitsEight eight_bytes (both_code IsAmount eight_bytes FitsEight eight_bytes amount_code eight_code) eight_code) c.args.bytes.now c.args.place c.in_ok-three.three c.in_ok-three.next c.in_ok-three.ensures c.in_err-expired.ensures)
