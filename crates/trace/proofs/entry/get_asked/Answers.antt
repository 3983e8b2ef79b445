use Rattle.byte_fields.specs.Encodings.{FitsEight, IsShort, eight_bytes, text_bytes}
use Rattle.byte_fields.proofs.Codes.{read_no_first}
use Rattle.byte_fields.proofs.Numbers.{eight_code}
use Rattle.trace.proofs.Reading.{read_paired}
use Rattle.trace.proofs.entry.get_asked.Goals as goal

pub returns-in_default : goal.returns-in_default
returns-in_default c = read_no_first FitsEight eight_bytes IsShort text_bytes c.args.bytes.now c.args.place c.in_default.ensures

pub returns : goal.returns
returns c =
    rw c.paired.ensures (read_paired FitsEight eight_bytes IsShort text_bytes eight_code c.args.bytes.now c.args.place c.in-Some.moment c.in-Some.next c.get_text.result c.in-Some.ensures c.get_text.ensures)
