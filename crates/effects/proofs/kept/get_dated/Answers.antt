use Rattle.byte_fields.specs.Codes.{BothValid, both_bytes}
use Rattle.byte_fields.specs.Encodings.{FitsFour, four_bytes, FitsEight, eight_bytes}
use Rattle.byte_fields.proofs.Codes.{both_code, read_no_first, read_no_second}
use Rattle.byte_fields.proofs.Numbers.{four_code, eight_code}
use Rattle.effects.specs.Bytes.{IsAmount}
use Rattle.effects.proofs.PartCodes.{amount_code}
use Rattle.effects.proofs.kept.get_dated.Goals as goal

pub returns-in_err-triple : goal.returns-in_err-triple
returns-in_err-triple c =
    rw c.from_residual.ensures (read_no_first (BothValid (BothValid FitsFour IsAmount) FitsEight) (both_bytes (both_bytes four_bytes eight_bytes) eight_bytes) FitsEight eight_bytes c.args.bytes.now c.args.place c.in_err-triple.ensures)

pub returns-in_err-due : goal.returns-in_err-due
returns-in_err-due c =
    rw c.from_residual-in_err-due.ensures (read_no_second (BothValid (BothValid FitsFour IsAmount) FitsEight) (both_bytes (both_bytes four_bytes eight_bytes) eight_bytes) FitsEight eight_bytes (both_code (BothValid FitsFour IsAmount) (both_bytes four_bytes eight_bytes) FitsEight eight_bytes (both_code FitsFour four_bytes IsAmount eight_bytes four_code amount_code) eight_code) c.args.bytes.now c.args.place c.in_ok-triple.triple c.in_ok-triple.next c.in_ok-triple.ensures c.in_err-due.ensures)
