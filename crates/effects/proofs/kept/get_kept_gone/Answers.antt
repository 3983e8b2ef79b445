use Rattle.byte_fields.proofs.Codes.{read_no_first}
use Rattle.effects.specs.Bodies.{IsAimed, aimed_bytes}
use Rattle.effects.specs.Bytes.{IsGone, gone_bytes}
use Rattle.effects.proofs.PartCodes.{aimed_code, read_behind}
use Rattle.effects.proofs.kept.get_kept_gone.Goals as goal

pub returns-in_default : goal.returns-in_default
returns-in_default c =
    let none = rw c.in_default.is at c.in_ok-aimed.ensures in
    read_no_first IsAimed aimed_bytes IsGone gone_bytes c.args.bytes.now c.args.place none

pub returns : goal.returns
returns c =
    let first = rw c.in-Some.is at c.in_ok-aimed.ensures in
    rw c.paired.ensures (read_behind IsAimed aimed_bytes IsGone gone_bytes aimed_code c.args.bytes.now c.args.place c.in-Some.aimed c.in-Some.next c.get_gone.result first c.get_gone.ensures)
