use Rattle.byte_fields.specs.Encodings.{IsShort, text_bytes}
use Rattle.byte_fields.proofs.Codes.{read_no_first}
use Rattle.trace.specs.Parts.{IsSent, sent_bytes}
use Rattle.trace.proofs.Reading.{sent_code, read_paired}
use Rattle.trace.proofs.entry.get_full.Goals as goal

pub returns-in_default : goal.returns-in_default
returns-in_default c =
    let none = rw c.in_default.is at c.in_ok-sent.ensures in
    read_no_first IsSent sent_bytes IsShort text_bytes c.args.bytes.now c.args.place none

pub returns : goal.returns
returns c =
    let first = rw c.in-Some.is at c.in_ok-sent.ensures in
    rw c.paired.ensures (read_paired IsSent sent_bytes IsShort text_bytes sent_code c.args.bytes.now c.args.place c.in-Some.sent c.in-Some.next c.get_text.result first c.get_text.ensures)
