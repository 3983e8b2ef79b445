use Rattle.std.proofs.Common.{rules}
use Rattle.budget_book.proofs.ahead.release_one.Goals as goal

pub returns-else-not-is_due : goal.returns-else-not-is_due
returns-else-not-is_due c = search rules
