use Rattle.trace.proofs.Reading.{entry_code, header_code}
use Rattle.trace.proofs.laws.entries_tell_their_ends.Goals as goal

pub returns-clause-header : goal.returns-clause-header
returns-clause-header c = header_code

pub returns-clause-entry : goal.returns-clause-entry
returns-clause-entry c = entry_code
