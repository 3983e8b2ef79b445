use Rattle.postings.specs.Order.{RisesTo}
use Rattle.postings.proofs.first_fault.Given as goal

abbrev pub invariant-loop-at : goal.invariant-loop-at
invariant-loop-at l = RisesTo l.entries l.at
