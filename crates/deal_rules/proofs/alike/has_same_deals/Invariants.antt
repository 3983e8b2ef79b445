use Rattle.std.proofs.Common.{◌≡◌, take}
use Rattle.deal_rules.proofs.alike.has_same_deals.Given as goal

abbrev pub invariant-loop-k : goal.invariant-loop-k
invariant-loop-k l = take l.k l.a ≡ take l.k l.b
