use Rattle.std.proofs.Common.{rules}
use Rattle.assign.proofs.rows.decimal_text.Goals as goal

pub returns : goal.returns
returns c = search rules
