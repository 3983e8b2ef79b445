use Rattle.byte_fields.specs.Encodings.{IsShort, text_bytes}
use Rattle.byte_fields.proofs.Codes.{read_no_first}
use Rattle.trace.specs.Parts.{IsTtl, ttl_bytes}
use Rattle.trace.proofs.Reading.{read_paired, ttl_code}
use Rattle.trace.proofs.header.get_pair.Goals as goal

pub returns-in_default : goal.returns-in_default
returns-in_default c = read_no_first IsTtl ttl_bytes IsShort text_bytes c.args.bytes.now c.args.place c.in_default.ensures

pub returns : goal.returns
returns c =
    rw c.paired.ensures (read_paired IsTtl ttl_bytes IsShort text_bytes ttl_code c.args.bytes.now c.args.place c.in-Some.ttl c.in-Some.next c.get_text.result c.in-Some.ensures c.get_text.ensures)
