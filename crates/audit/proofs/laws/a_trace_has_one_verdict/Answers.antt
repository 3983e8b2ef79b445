use Rattle.audit.proofs.OneVerdict.{one_verdict}
use Rattle.audit.proofs.laws.a_trace_has_one_verdict.Goals as goal

pub returns : goal.returns
returns c = one_verdict
