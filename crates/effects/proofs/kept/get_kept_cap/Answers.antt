use Rattle.byte_fields.specs.Encodings.{IsOptionOf, option_bytes}
use Rattle.byte_fields.proofs.Codes.{read_no_first}
use Rattle.effects.specs.Bodies.{IsLive, live_bytes}
use Rattle.effects.specs.Bytes.{IsCap, terms_bytes}
use Rattle.effects.proofs.PartCodes.{live_code, read_behind}
use Rattle.effects.proofs.kept.get_kept_cap.Goals as goal

pub returns-in_default : goal.returns-in_default
returns-in_default c =
    let none = rw c.in_default.is at c.in_ok-facts.ensures in
    read_no_first IsLive live_bytes (IsOptionOf IsCap) (option_bytes terms_bytes) c.args.bytes.now c.args.place none

pub returns : goal.returns
returns c =
    let first = rw c.in-Some.is at c.in_ok-facts.ensures in
    rw c.paired.ensures (read_behind IsLive live_bytes (IsOptionOf IsCap) (option_bytes terms_bytes) live_code c.args.bytes.now c.args.place c.in-Some.facts c.in-Some.next c.get_optional_cap.result first c.get_optional_cap.ensures)
