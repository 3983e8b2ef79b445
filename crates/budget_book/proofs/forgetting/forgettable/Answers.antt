use Rattle.std.proofs.Common.{rules}
use Rattle.budget_book.proofs.forgetting.forgettable.Goals as goal

pub returns : goal.returns
returns c = search rules
