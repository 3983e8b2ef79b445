use Rattle.byte_fields.proofs.Codes.{read_no_first}
use Rattle.campaign.specs.Encoding.{facts_bytes}
use Rattle.campaign.specs.Kept.{IsEncodable as IsUncapped}
use Rattle.campaign.proofs.Decoding.{encodable_code as uncapped_code}
use Rattle.effects.specs.Bytes.{IsCap, terms_bytes}
use Rattle.effects.proofs.PartCodes.{read_behind}
use Rattle.effects.proofs.changes.get_capped_facts.Goals as goal

pub returns-in_default : goal.returns-in_default
returns-in_default c =
    let none = rw c.in_default.is at c.in_ok-facts.ensures in
    read_no_first IsUncapped facts_bytes IsCap terms_bytes c.args.bytes.now c.args.place none

pub returns : goal.returns
returns c =
    let first = rw c.in-Some.is at c.in_ok-facts.ensures in
    rw c.paired.ensures (read_behind IsUncapped facts_bytes IsCap terms_bytes uncapped_code c.args.bytes.now c.args.place c.in-Some.facts c.in-Some.next c.get_terms.result first c.get_terms.ensures)
