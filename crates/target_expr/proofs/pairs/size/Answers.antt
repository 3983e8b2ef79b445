use Rattle.std.proofs.Common.{rules}
use Rattle.target_expr.proofs.pairs.size.Goals as goal

pub returns : goal.returns
returns c = search rules
