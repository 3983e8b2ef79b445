use Rattle.std.proofs.Common.{rules}
use Rattle.std.proofs.lemmas.List.Sorted.{answers_always}
use Rattle.clearing.proofs.Sorting.{ranks, sorted_in_order}
use Rattle.clearing.specs.Clearing.{beats}
use Rattle.clearing.proofs.walk.put_in_order.Goals as goal

pub returns-clause-order : goal.returns-clause-order
returns-clause-order c = sorted_in_order _ (c.sort_unstable_by.ensures.sorted beats ranks (answers_always _ _ _ (λ f a r f' k. search rules)))
