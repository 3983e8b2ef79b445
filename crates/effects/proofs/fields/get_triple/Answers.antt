use Rattle.byte_fields.specs.Codes.{BothValid, both_bytes}
use Rattle.byte_fields.specs.Encodings.{FitsFour, four_bytes, FitsEight, eight_bytes}
use Rattle.byte_fields.proofs.Codes.{both_code, read_no_first, read_no_second}
use Rattle.byte_fields.proofs.Numbers.{four_code}
use Rattle.effects.specs.Bytes.{IsAmount}
use Rattle.effects.proofs.PartCodes.{amount_code}
use Rattle.effects.proofs.fields.get_triple.Goals as goal

pub returns-in_err-priced : goal.returns-in_err-priced
returns-in_err-priced c =
    rw c.from_residual.ensures (read_no_first (BothValid FitsFour IsAmount) (both_bytes four_bytes eight_bytes) FitsEight eight_bytes c.args.bytes.now c.args.place c.in_err-priced.ensures)

pub returns-in_err-time : goal.returns-in_err-time
returns-in_err-time c =
    rw c.from_residual-in_err-time.ensures (read_no_second (BothValid FitsFour IsAmount) (both_bytes four_bytes eight_bytes) FitsEight eight_bytes (both_code FitsFour four_bytes IsAmount eight_bytes four_code amount_code) c.args.bytes.now c.args.place c.in_ok-priced.priced c.in_ok-priced.next c.in_ok-priced.ensures c.in_err-time.ensures)
