use Rattle.std.proofs.Common.{◌≡◌, map, take}
use Rattle.plain_exchange.specs.declared.changes.SoldItem.{SoldItem as AnItem}
use Rattle.auction_core.proofs.ready.put_keys.Given as goal

abbrev pub invariant-loop-item : goal.invariant-loop-item
invariant-loop-item l = l.all ≡ map (λ (item : AnItem). l.user) (take l._item-index l.items)
