use Rattle.byte_fields.specs.Encodings.{IsFlag, IsOptionOf, flag_bytes, list_bytes, option_bytes}
use Rattle.byte_fields.proofs.Codes.{three_no_first, three_no_second, three_no_third}
use Rattle.campaign.specs.Encoding.{int_bytes, sides_bytes}
use Rattle.campaign.specs.Groups.{AreInts, AreSides}
use Rattle.campaign.proofs.decode.get_look.Goals as goal
use Rattle.campaign.proofs.Decoding.{ints_code, size_code}

pub returns-in_default : goal.returns-in_default
returns-in_default c =
    three_no_first (IsOptionOf AreSides) (option_bytes sides_bytes) AreInts (list_bytes int_bytes) IsFlag flag_bytes c.args.bytes.now c.args.place c.in_default.ensures

pub returns-in_default-2 : goal.returns-in_default-2
returns-in_default-2 c =
    let none = rw c.in_default-2.is at c.in_ok-attr.ensures in
    three_no_second (IsOptionOf AreSides) (option_bytes sides_bytes) AreInts (list_bytes int_bytes) IsFlag flag_bytes size_code c.args.bytes.now c.args.place c.in-Some.size c.in-Some.next c.in-Some.ensures none

pub returns-in_default-get_flag : goal.returns-in_default-get_flag
returns-in_default-get_flag c =
    let attr = rw c.in-Some-2.is at c.in_ok-attr.ensures in
    three_no_third (IsOptionOf AreSides) (option_bytes sides_bytes) AreInts (list_bytes int_bytes) IsFlag flag_bytes size_code ints_code c.args.bytes.now c.args.place c.in-Some.size c.in-Some.next c.in-Some-2.attr c.in-Some-2.next c.in-Some.ensures attr c.in_default-get_flag.ensures
