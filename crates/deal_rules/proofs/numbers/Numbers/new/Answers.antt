use Rattle.deal_rules.proofs.Naming.{put_numbers_in_order}
use Rattle.deal_rules.proofs.numbers.Numbers.new.Goals as goal

pub invariant_of-result : goal.invariant_of-result
invariant_of-result c = put_numbers_in_order c.args.numbers.now c.in_ok-ordered.ordered.items c.sort_unstable.new.self.items c.in_ok-ordered.ensures.items c.sort_unstable.ensures.permutation c.sort_unstable.ensures.sorted
