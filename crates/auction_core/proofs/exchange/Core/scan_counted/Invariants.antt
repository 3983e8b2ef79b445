use Rattle.std.proofs.Common.{◌≡◌, map, take}
use Rattle.auction_core.specs.Draft.{found_for}
use Rattle.auction_core.proofs.exchange.Core.scan_counted.Given as goal

abbrev pub invariant-loop-imp : goal.invariant-loop-imp
invariant-loop-imp g l = l.found.items ≡ map (found_for l.self.state l.request) (take l.imp l.request.imps)
