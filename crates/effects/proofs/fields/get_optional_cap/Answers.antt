use Rattle.byte_fields.proofs.Codes.{option_no_flag, option_is_torn}
use Rattle.effects.specs.Bytes.{IsCap, terms_bytes}
use Rattle.effects.proofs.fields.get_optional_cap.Goals as goal

pub returns-in_err-is_there : goal.returns-in_err-is_there
returns-in_err-is_there c =
    rw c.from_residual.ensures (option_no_flag IsCap terms_bytes c.args.bytes.now c.args.place c.in_err-is_there.ensures)

pub returns-in_err-cap : goal.returns-in_err-cap
returns-in_err-cap c =
    let flag = rw c.if-not-is_there.false at c.in_ok-is_there.ensures in
    rw c.from_residual-in_err-cap.ensures (option_is_torn IsCap terms_bytes c.args.bytes.now c.args.place c.in_ok-is_there.next flag c.in_err-cap.ensures)
