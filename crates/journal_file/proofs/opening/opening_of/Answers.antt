use Rattle.std.proofs.Common.{rules}
use Rattle.journal_file.proofs.opening.opening_of.Goals as goal

pub returns-then-head-ne1-clause-opening : goal.returns-then-head-ne1-clause-opening
returns-then-head-ne1-clause-opening c = search rules
