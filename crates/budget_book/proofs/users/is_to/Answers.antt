use Rattle.std.proofs.Common.{rules}
use Rattle.budget_book.proofs.users.is_to.Goals as goal

pub returns-in-Some : goal.returns-in-Some
returns-in-Some c = search rules
