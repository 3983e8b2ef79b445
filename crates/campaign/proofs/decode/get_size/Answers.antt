use Rattle.byte_fields.proofs.Codes.{option_no_flag, option_is_torn}
use Rattle.campaign.specs.Encoding.{sides_bytes}
use Rattle.campaign.specs.Groups.{AreSides}
use Rattle.campaign.proofs.decode.get_size.Goals as goal

pub returns-in_err-is_there : goal.returns-in_err-is_there
returns-in_err-is_there c =
    rw c.from_residual.ensures (option_no_flag AreSides sides_bytes c.args.bytes.now c.args.place c.in_err-is_there.ensures)

pub returns-in_err-sides : goal.returns-in_err-sides
returns-in_err-sides c =
    let flag = rw c.if-not-is_there.false at c.in_ok-is_there.ensures in
    rw c.from_residual-in_err-sides.ensures (option_is_torn AreSides sides_bytes c.args.bytes.now c.args.place c.in_ok-is_there.next flag c.in_err-sides.ensures)
