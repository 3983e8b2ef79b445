use Rattle.std.proofs.Common.{◌≡◌, ◌++◌, take}
use Rattle.deal_rules.specs.Offers.{deal_offers}
use Rattle.deal_rules.proofs.offering.push_deals.Given as goal

-- the offers for the deals so far
abbrev pub invariant-loop-k : goal.invariant-loop-k
invariant-loop-k l = l.offers.items ≡ l.fn.offers.items ++ deal_offers l.number l.facts (take l.k l.deals)
