use Rattle.byte_fields.specs.Codes.{BothValid, both_bytes}
use Rattle.byte_fields.specs.Encodings.{IsShort, list_bytes, text_bytes}
use Rattle.byte_fields.proofs.Codes.{both_code, read_no_first}
use Rattle.byte_fields.proofs.Rows.{text_code}
use Rattle.campaign.specs.Groups.{AreTexts}
use Rattle.campaign.proofs.decode.get_names.Goals as goal
use Rattle.campaign.proofs.Decoding.{read_paired}

pub returns-in_default : goal.returns-in_default
returns-in_default c =
    let none = rw c.in_default.is at c.in_ok-texts.ensures in
    read_no_first (BothValid IsShort IsShort) (both_bytes text_bytes text_bytes) AreTexts (list_bytes text_bytes) c.args.bytes.now c.args.place none

pub returns : goal.returns
returns c =
    let texts = rw c.in-Some.is at c.in_ok-texts.ensures in
    rw c.paired.ensures (read_paired (BothValid IsShort IsShort) (both_bytes text_bytes text_bytes) AreTexts (list_bytes text_bytes) (both_code IsShort text_bytes IsShort text_bytes text_code text_code) c.args.bytes.now c.args.place c.in-Some.texts c.in-Some.next c.get_texts.result texts c.get_texts.ensures.value)
