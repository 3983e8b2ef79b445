use Rattle.std.proofs.Common.{rules}
use Rattle.budget_book.proofs.sales.SaleState.is_held.Goals as goal

pub returns-in-Billed : goal.returns-in-Billed
returns-in-Billed c = search rules
