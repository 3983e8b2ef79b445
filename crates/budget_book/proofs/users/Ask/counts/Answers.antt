use Rattle.std.proofs.Common.{rules}
use Rattle.budget_book.proofs.users.Ask.counts.Goals as goal

pub returns : goal.returns
returns c = search rules
