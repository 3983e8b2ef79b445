use Rattle.std.proofs.lemmas.Grind.{common_steps}
use Rattle.std.proofs.Common.{arith}
use Rattle.deal_rules.proofs.pools.push_terms.Goals as goal

pub loop-deal-preserved : goal.loop-deal-preserved
loop-deal-preserved c = grind (arith, common_steps)
