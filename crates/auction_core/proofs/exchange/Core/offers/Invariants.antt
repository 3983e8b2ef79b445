use Rattle.std.proofs.Common.{◌≡◌, Some, take}
use Rattle.std.specs.Prelude.{slice_get}
use Rattle.std.specs.List.{flat_map}
use Rattle.auction_core.specs.Auctions.{beside, offers_at}
use Rattle.rtb_types.specs.declared.request.Imp.{Imp}
use Rattle.auction_core.proofs.exchange.Core.offers.Given as goal

abbrev pub invariant-loop-number : goal.invariant-loop-number
invariant-loop-number l = (i : Imp) → slice_get l.asked.imps l.imp ≡ Some i
    → l.all.items ≡ flat_map (offers_at (beside l.self.settings l.moment l.asked l.self.state l.awards) l.asked i l.moment) (take l.number-index l.numbers)
