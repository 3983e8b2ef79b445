use Rattle.byte_fields.specs.Codes.{BothValid, both_bytes}
use Rattle.byte_fields.specs.Encodings.{FitsFour, four_bytes, FitsEight, eight_bytes}
use Rattle.byte_fields.proofs.Codes.{both_code, read_no_first, read_no_second}
use Rattle.byte_fields.proofs.Numbers.{four_code, eight_code}
use Rattle.effects.specs.Bytes.{IsAmount}
use Rattle.effects.specs.Bodies.{IsState, state_bytes}
use Rattle.effects.proofs.PartCodes.{amount_code}
use Rattle.effects.proofs.kept.get_stated.Goals as goal

pub returns-in_err-dated : goal.returns-in_err-dated
returns-in_err-dated c =
    rw c.from_residual.ensures (read_no_first (BothValid (BothValid (BothValid FitsFour IsAmount) FitsEight) FitsEight) (both_bytes (both_bytes (both_bytes four_bytes eight_bytes) eight_bytes) eight_bytes) IsState state_bytes c.args.bytes.now c.args.place c.in_err-dated.ensures)

pub returns-in_err-state : goal.returns-in_err-state
returns-in_err-state c =
    rw c.from_residual-in_err-state.ensures (read_no_second (BothValid (BothValid (BothValid FitsFour IsAmount) FitsEight) FitsEight) (both_bytes (both_bytes (both_bytes four_bytes eight_bytes) eight_bytes) eight_bytes) IsState state_bytes (both_code (BothValid (BothValid FitsFour IsAmount) FitsEight) (both_bytes (both_bytes four_bytes eight_bytes) eight_bytes) FitsEight eight_bytes (both_code (BothValid FitsFour IsAmount) (both_bytes four_bytes eight_bytes) FitsEight eight_bytes (both_code FitsFour four_bytes IsAmount eight_bytes four_code amount_code) eight_code) eight_code) c.args.bytes.now c.args.place c.in_ok-dated.dated c.in_ok-dated.next c.in_ok-dated.ensures c.in_err-state.ensures)
