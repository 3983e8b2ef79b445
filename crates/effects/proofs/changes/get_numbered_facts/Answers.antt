use Rattle.byte_fields.specs.Encodings.{FitsFour, four_bytes}
use Rattle.byte_fields.proofs.Codes.{read_no_first, read_no_second}
use Rattle.byte_fields.proofs.Numbers.{four_code}
use Rattle.campaign.specs.Encoding.{facts_bytes}
use Rattle.campaign.specs.Kept.{IsEncodable as IsUncapped}
use Rattle.effects.proofs.changes.get_numbered_facts.Goals as goal

pub returns-in_default : goal.returns-in_default
returns-in_default c =
    let none = c.in_default.ensures in
    read_no_first FitsFour four_bytes IsUncapped facts_bytes c.args.bytes.now c.args.place none

pub returns-in_default-2 : goal.returns-in_default-2
returns-in_default-2 c =
    let first = c.in-Some.ensures in
    let none = rw c.in_default-2.is at c.in_ok-facts.ensures in
    read_no_second FitsFour four_bytes IsUncapped facts_bytes four_code c.args.bytes.now c.args.place c.in-Some.n c.in-Some.next first none
