use Rattle.byte_fields.specs.Encodings.{IsFlag, flag_bytes}
use Rattle.byte_fields.proofs.Codes.{flag_code, read_no_first, read_no_second}
use Rattle.campaign.specs.Encoding.{facts_bytes}
use Rattle.campaign.specs.Kept.{IsEncodable as IsUncapped}
use Rattle.effects.proofs.kept.get_live_facts.Goals as goal

pub returns-in_default : goal.returns-in_default
returns-in_default c =
    let none = c.in_default.ensures in
    read_no_first IsFlag flag_bytes IsUncapped facts_bytes c.args.bytes.now c.args.place none

pub returns-in_default-2 : goal.returns-in_default-2
returns-in_default-2 c =
    let first = c.in-Some.ensures in
    let none = rw c.in_default-2.is at c.in_ok-facts.ensures in
    read_no_second IsFlag flag_bytes IsUncapped facts_bytes flag_code c.args.bytes.now c.args.place c.in-Some.live c.in-Some.next first none
