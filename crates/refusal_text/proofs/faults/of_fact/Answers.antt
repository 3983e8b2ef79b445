use Rattle.std.proofs.Common.{rules}
use Rattle.refusal_text.proofs.faults.of_fact.Goals as goal

pub returns-in-ListLength : goal.returns-in-ListLength
returns-in-ListLength c = search rules
