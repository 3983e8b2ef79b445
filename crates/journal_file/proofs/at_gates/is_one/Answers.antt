use Rattle.std.proofs.Common.{rules}
use Rattle.journal_file.proofs.at_gates.is_one.Goals as goal

pub returns-in-Some : goal.returns-in-Some
returns-in-Some c = search rules
