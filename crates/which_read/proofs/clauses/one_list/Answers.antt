use Rattle.std.proofs.Common.{rules}
use Rattle.which_read.proofs.clauses.one_list.Goals as goal

pub returns : goal.returns
returns c = search rules
