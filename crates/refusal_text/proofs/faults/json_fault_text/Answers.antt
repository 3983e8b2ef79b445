use Rattle.std.proofs.Common.{rules}
use Rattle.refusal_text.proofs.faults.json_fault_text.Goals as goal

pub returns-in-Deep : goal.returns-in-Deep
returns-in-Deep c = search rules
