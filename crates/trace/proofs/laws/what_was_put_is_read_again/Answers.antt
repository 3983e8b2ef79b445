use Rattle.byte_fields.proofs.Codes.{read_again}
use Rattle.trace.specs.Traces.{IsEntry, IsHeader, entry_bytes, header_bytes}
use Rattle.trace.proofs.Reading.{entry_code, header_code}
use Rattle.trace.proofs.laws.what_was_put_is_read_again.Goals as goal

pub returns-clause-header : goal.returns-clause-header
returns-clause-header c = λ front back h found valid read. read_again IsHeader header_bytes header_code front back h found valid read

pub returns-clause-entry : goal.returns-clause-entry
returns-clause-entry c = λ front back e found valid read. read_again IsEntry entry_bytes entry_code front back e found valid read
