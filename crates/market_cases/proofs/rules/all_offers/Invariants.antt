use Rattle.std.proofs.Common.{◌≡◌, Some, slice_get, true}
use Rattle.std.specs.List.{list_all}
use Rattle.clearing.specs.Clearing.{is_fit}
use Rattle.deal_rules.specs.Terms.{terms_of}
use Rattle.rtb_types.specs.declared.request.Imp.{Imp}
use Rattle.market_cases.proofs.rules.all_offers.Given as goal

-- the offers so far fit
abbrev pub invariant-loop-bidder : goal.invariant-loop-bidder
invariant-loop-bidder l = (i : Imp) → slice_get l.asked.imps 0 ≡ Some i → list_all (is_fit (terms_of l.asked i)) l.all.items ≡ true
