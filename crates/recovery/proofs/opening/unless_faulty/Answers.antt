use Rattle.std.proofs.Common.{rules}
use Rattle.recovery.proofs.opening.unless_faulty.Goals as goal

pub returns-in-Err : goal.returns-in-Err
returns-in-Err g c = search rules
