use Rattle.std.proofs.Common.{rules}
use Rattle.assign.proofs.rows.pos_of.Goals as goal

pub returns-in-Some : goal.returns-in-Some
returns-in-Some c = search rules
