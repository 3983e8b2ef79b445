use Rattle.std.proofs.Common.{rules}
use Rattle.refusal_text.proofs.faults.request_fault_text.Goals as goal

pub returns-in-Range : goal.returns-in-Range
returns-in-Range c = search rules
