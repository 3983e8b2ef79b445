use Rattle.std.proofs.Common.{◌≡◌, take}
use Rattle.deal_rules.proofs.asked.asked_deals.Given as goal

abbrev pub invariant-loop-deal : goal.invariant-loop-deal
invariant-loop-deal l = l.all.items ≡ take l.deal-index l.deals
