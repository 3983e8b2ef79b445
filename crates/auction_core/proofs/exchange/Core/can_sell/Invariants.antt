use Rattle.std.proofs.Common.{◌≡◌, Some, take}
use Rattle.auction_core.specs.Applying.{User, with_sold}
use Rattle.plain_exchange.specs.Effects.{with_items}
use Rattle.plain_exchange.specs.State.{swept}
use Rattle.auction_core.proofs.exchange.Core.can_sell.Given as goal

abbrev pub invariant-loop-place : goal.invariant-loop-place
invariant-loop-place l = (user : User) → with_items l.moment user (take l.place l.items) (swept l.moment l.self.state) ≡ Some (with_sold l.moment user (take l.place l.items) (swept l.moment l.self.state))
