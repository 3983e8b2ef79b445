use Rattle.byte_fields.specs.Encodings.{IsShort, text_bytes}
use Rattle.byte_fields.proofs.Codes.{read_no_first}
use Rattle.byte_fields.proofs.Rows.{text_code}
use Rattle.campaign.proofs.decode.get_two_texts.Goals as goal
use Rattle.campaign.proofs.Decoding.{read_paired}

pub returns-in_default : goal.returns-in_default
returns-in_default c =
    let none = rw c.in_default.is at c.in_ok-text.ensures in
    read_no_first IsShort text_bytes IsShort text_bytes c.args.bytes.now c.args.place none

pub returns : goal.returns
returns c =
    let text = rw c.in-Some.is at c.in_ok-text.ensures in
    rw c.paired.ensures (read_paired IsShort text_bytes IsShort text_bytes text_code c.args.bytes.now c.args.place c.in-Some.text c.in-Some.next c.get_text-2.result text c.get_text-2.ensures)
