use Rattle.byte_fields.proofs.Codes.{option_no_flag, option_is_torn}
use Rattle.byte_fields.specs.Encodings.{text_bytes}
use Rattle.effects.specs.Bytes.{IsUser}
use Rattle.effects.proofs.fields.get_optional_user.Goals as goal

pub returns-in_default : goal.returns-in_default
returns-in_default c = option_no_flag IsUser text_bytes c.args.bytes.now c.args.place c.in_default.ensures

pub returns-in_default-2 : goal.returns-in_default-2
returns-in_default-2 c =
    let flag = rw c.if-not-is_there.false at c.in-Some.ensures in
    let none = rw c.in_default-2.is at c.in_ok-user.ensures in
    option_is_torn IsUser text_bytes c.args.bytes.now c.args.place c.in-Some.next flag none
