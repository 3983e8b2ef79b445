use Rattle.std.proofs.Common.{◌≡◌, ◌+◌, length, take}
use Rattle.std.specs.List.{enumerate_from, filter_map}
use Rattle.plain_exchange.specs.State.{forgotten}
use Rattle.plain_exchange.specs.Step.{sold_as}
use Rattle.auction_core.proofs.exchange.Core.list_sales.Given as goal

abbrev pub invariant-loop-place : goal.invariant-loop-place
invariant-loop-place l = l.all ≡ filter_map (sold_as l.self.state l.request) (take l.place (enumerate_from (forgotten l.self.state + length l.self.state.sales + 1) l.awards))
