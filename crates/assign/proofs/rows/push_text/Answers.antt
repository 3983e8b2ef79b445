use Rattle.std.proofs.Common.{rules}
use Rattle.assign.proofs.rows.push_text.Goals as goal

pub returns-in_default : goal.returns-in_default
returns-in_default c = search rules
