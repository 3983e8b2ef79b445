use Rattle.deal_rules.proofs.Naming.{same_in_order}
use Rattle.deal_rules.proofs.texts.in_order.Goals as goal

pub returns-then-len-gt-FEW-clause-same : goal.returns-then-len-gt-FEW-clause-same
returns-then-len-gt-FEW-clause-same c = λ p. same_in_order c.args.texts.items c.sort_unstable.new.self.items c.sort_unstable.ensures.permutation p
