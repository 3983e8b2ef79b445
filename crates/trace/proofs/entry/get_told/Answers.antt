use Rattle.byte_fields.specs.Encodings.{FitsFour, four_bytes}
use Rattle.byte_fields.proofs.Codes.{read_no_first}
use Rattle.trace.specs.Parts.{IsFull, full_bytes}
use Rattle.trace.proofs.Reading.{full_code, read_behind}
use Rattle.trace.proofs.entry.get_told.Goals as goal

pub returns-in_default : goal.returns-in_default
returns-in_default c =
    let none = rw c.in_default.is at c.in_ok-full.ensures in
    read_no_first IsFull full_bytes FitsFour four_bytes c.args.bytes.now c.args.place none

pub returns : goal.returns
returns c =
    let first = rw c.in-Some.is at c.in_ok-full.ensures in
    rw c.paired.ensures (read_behind IsFull full_bytes FitsFour four_bytes full_code c.args.bytes.now c.args.place c.in-Some.full c.in-Some.next c.get_four.result first c.get_four.ensures)
