use Rattle.byte_fields.specs.Codes.{BothValid, both_bytes}
use Rattle.byte_fields.specs.Encodings.{FitsFour, four_bytes, FitsEight, eight_bytes, IsOptionOf, option_bytes, text_bytes}
use Rattle.byte_fields.proofs.Codes.{both_code, read_both, read_no_first, read_no_second}
use Rattle.byte_fields.proofs.Numbers.{four_code, eight_code}
use Rattle.effects.specs.Bytes.{IsAmount, IsUser}
use Rattle.effects.specs.declared.tag.Tag.{Tag}
use Rattle.effects.specs.Bodies.{IsState, state_bytes}
use Rattle.effects.proofs.PartCodes.{amount_code, state_code}
use Rattle.effects.proofs.Bodied.{no_body, some_body}
use Rattle.effects.proofs.kept.get_kept_sale.Goals as goal

pub returns-in_default : goal.returns-in_default
returns-in_default c =
    let none = c.in_default.ensures in
    no_body Tag.KeptSale c.args.bytes.now c.args.place (read_no_first (BothValid (BothValid (BothValid (BothValid FitsFour IsAmount) FitsEight) FitsEight) IsState) (both_bytes (both_bytes (both_bytes (both_bytes four_bytes eight_bytes) eight_bytes) eight_bytes) state_bytes) (IsOptionOf IsUser) (option_bytes text_bytes) c.args.bytes.now c.args.place none)

pub returns-in_default-2 : goal.returns-in_default-2
returns-in_default-2 c =
    let first = c.in-Some.ensures in
    let none = rw c.in_default-2.is at c.in_ok-user.ensures in
    no_body Tag.KeptSale c.args.bytes.now c.args.place (read_no_second (BothValid (BothValid (BothValid (BothValid FitsFour IsAmount) FitsEight) FitsEight) IsState) (both_bytes (both_bytes (both_bytes (both_bytes four_bytes eight_bytes) eight_bytes) eight_bytes) state_bytes) (IsOptionOf IsUser) (option_bytes text_bytes) (both_code (BothValid (BothValid (BothValid FitsFour IsAmount) FitsEight) FitsEight) (both_bytes (both_bytes (both_bytes four_bytes eight_bytes) eight_bytes) eight_bytes) IsState state_bytes (both_code (BothValid (BothValid FitsFour IsAmount) FitsEight) (both_bytes (both_bytes four_bytes eight_bytes) eight_bytes) FitsEight eight_bytes (both_code (BothValid FitsFour IsAmount) (both_bytes four_bytes eight_bytes) FitsEight eight_bytes (both_code FitsFour four_bytes IsAmount eight_bytes four_code amount_code) eight_code) eight_code) state_code) c.args.bytes.now c.args.place c.in-Some.stated c.in-Some.next first none)

pub returns : goal.returns
returns c =
    let first = c.in-Some.ensures in
    let second = rw c.in-Some-2.is at c.in_ok-user.ensures in
    rw c.row_from.ensures (some_body Tag.KeptSale c.args.bytes.now c.args.place (c.in-Some.stated, c.in-Some-2.user) c.in-Some-2.next
    (read_both (BothValid (BothValid (BothValid (BothValid FitsFour IsAmount) FitsEight) FitsEight) IsState) (both_bytes (both_bytes (both_bytes (both_bytes four_bytes eight_bytes) eight_bytes) eight_bytes) state_bytes) (IsOptionOf IsUser) (option_bytes text_bytes) c.args.bytes.now c.args.place c.in-Some.stated c.in-Some.next c.in-Some-2.user c.in-Some-2.next first second))
