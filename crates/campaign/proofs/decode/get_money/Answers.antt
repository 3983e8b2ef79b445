use Rattle.byte_fields.specs.Encodings.{eight_bytes, list_bytes, text_bytes}
use Rattle.byte_fields.proofs.Codes.{three_no_first, three_no_second, three_no_third}
use Rattle.campaign.specs.Groups.{AreTexts, IsMicros, IsNanos}
use Rattle.campaign.proofs.decode.get_money.Goals as goal
use Rattle.campaign.proofs.Decoding.{micros_code, texts_code}

pub returns-in_default : goal.returns-in_default
returns-in_default c =
    three_no_first IsMicros eight_bytes AreTexts (list_bytes text_bytes) IsNanos eight_bytes c.args.bytes.now c.args.place c.in_default.ensures

pub returns-in_default-2 : goal.returns-in_default-2
returns-in_default-2 c =
    let none = rw c.in_default-2.is at c.in_ok-deals.ensures.value in
    three_no_second IsMicros eight_bytes AreTexts (list_bytes text_bytes) IsNanos eight_bytes micros_code c.args.bytes.now c.args.place _ _ c.in-Some.ensures none

pub returns-in_default-get_nanos : goal.returns-in_default-get_nanos
returns-in_default-get_nanos c =
    let deals = rw c.in-Some-2.is at c.in_ok-deals.ensures.value in
    three_no_third IsMicros eight_bytes AreTexts (list_bytes text_bytes) IsNanos eight_bytes micros_code texts_code c.args.bytes.now c.args.place _ _ c.in-Some-2.deals c.in-Some-2.next c.in-Some.ensures deals c.in_default-get_nanos.ensures
