use Rattle.byte_fields.specs.Encodings.{text_bytes}
use Rattle.byte_fields.proofs.Codes.{read_both, read_no_first, read_no_second}
use Rattle.effects.specs.Bytes.{AreItems, IsUser, items_bytes}
use Rattle.effects.specs.declared.tag.Tag.{Tag}
use Rattle.effects.proofs.PartCodes.{user_code}
use Rattle.effects.proofs.Bodied.{no_body, some_body}
use Rattle.effects.proofs.changes.get_sold_to.Goals as goal

pub returns-in_default : goal.returns-in_default
returns-in_default c =
    let none = rw c.in_default.is at c.in_ok-user.ensures in
    no_body Tag.SoldTo c.args.bytes.now c.args.place (read_no_first IsUser text_bytes AreItems items_bytes c.args.bytes.now c.args.place none)

pub returns-in_default-2 : goal.returns-in_default-2
returns-in_default-2 c =
    let first = rw c.in-Some.is at c.in_ok-user.ensures in
    let none = rw c.in_default-2.is at c.in_ok-items.ensures in
    no_body Tag.SoldTo c.args.bytes.now c.args.place (read_no_second IsUser text_bytes AreItems items_bytes user_code c.args.bytes.now c.args.place c.in-Some.user c.in-Some.next first none)

pub returns : goal.returns
returns c =
    let first = rw c.in-Some.is at c.in_ok-user.ensures in
    let second = rw c.in-Some-2.is at c.in_ok-items.ensures in
    (some_body Tag.SoldTo c.args.bytes.now c.args.place (c.in-Some.user, c.in-Some-2.items) c.in-Some-2.next
    (read_both IsUser text_bytes AreItems items_bytes c.args.bytes.now c.args.place c.in-Some.user c.in-Some.next c.in-Some-2.items c.in-Some-2.next first second))
