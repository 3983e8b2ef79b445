use Rattle.std.proofs.Common.{rules}
use Rattle.budget_book.proofs.account.Account.forget.Goals as goal

pub returns-in-Lost : goal.returns-in-Lost
returns-in-Lost c = search rules
