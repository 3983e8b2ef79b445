use Rattle.std.proofs.Common.{rules}
use Rattle.journal_file.proofs.journal.Journal.broken.Goals as goal

pub returns-in-Block : goal.returns-in-Block
returns-in-Block g c = search rules
