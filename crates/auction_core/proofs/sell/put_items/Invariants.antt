use Rattle.std.proofs.Common.{◌≡◌, map, take}
use Rattle.auction_core.specs.Auctions.{item_due}
use Rattle.auction_core.proofs.sell.put_items.Given as goal

abbrev pub invariant-loop-award : goal.invariant-loop-award
invariant-loop-award l = l.all ≡ map (item_due l.due) (take l.award-index l.awards)
