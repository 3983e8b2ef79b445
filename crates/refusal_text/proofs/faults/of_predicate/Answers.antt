use Rattle.std.proofs.Common.{rules}
use Rattle.refusal_text.proofs.faults.of_predicate.Goals as goal

pub returns : goal.returns
returns c = search rules
