use Rattle.std.proofs.Common.{Err, ap}
use Rattle.audit.proofs.Auditing.{quiet_by}
use Rattle.audit.proofs.run.judge.Goals as goal

pub returns-in-Err-clause-cause : goal.returns-in-Err-clause-cause
returns-in-Err-clause-cause g c = quiet_by c.in-Err.fault _ _ (ap Err c.into.ensures)
