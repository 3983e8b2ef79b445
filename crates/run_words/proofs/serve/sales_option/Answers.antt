use Rattle.std.proofs.Common.{rules}
use Rattle.run_words.proofs.serve.sales_option.Goals as goal

pub returns-clause-rule : goal.returns-clause-rule
returns-clause-rule c = search rules
