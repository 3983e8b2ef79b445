use Rattle.std.proofs.Common.{◌≡◌, map, take}
use Rattle.deal_rules.specs.Terms.{terms_of}
use Rattle.deal_rules.proofs.pools.all_terms.Given as goal

-- those of the impressions so far
abbrev pub invariant-loop-imp : goal.invariant-loop-imp
invariant-loop-imp l = l.all.items ≡ map (terms_of l.request) (take l.imp-index l.request.imps)
