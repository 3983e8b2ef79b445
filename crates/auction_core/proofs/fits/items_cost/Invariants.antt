use Rattle.std.proofs.Common.{◌≡◌, ◌-◌, ◌^◌, min, take}
use Rattle.auction_core.specs.Applying.{items_cost}
use Rattle.auction_core.proofs.fits.items_cost.Given as goal

abbrev pub invariant-loop-item : goal.invariant-loop-item
invariant-loop-item l = l.sum ≡ min (items_cost l.n (take l.item-index l.items)) (2 ^ 64 - 1)
