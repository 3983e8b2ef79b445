use Rattle.std.proofs.Common.{◌≡◌, ◌++◌, map, take}
use Rattle.deal_rules.specs.Terms.{deal_terms}
use Rattle.deal_rules.proofs.pools.push_terms.Given as goal

-- the terms of the deals so far
abbrev pub invariant-loop-deal : goal.invariant-loop-deal
invariant-loop-deal l = l.terms ≡ l.fn.terms ++ map deal_terms (take l.deal-index l.deals)
