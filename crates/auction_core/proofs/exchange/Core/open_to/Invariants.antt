use Rattle.std.proofs.Common.{◌≡◌}
use Rattle.auction_core.proofs.Scanning.{first_open}
use Rattle.auction_core.proofs.exchange.Core.open_to.Given as goal

abbrev pub invariant-loop-place : goal.invariant-loop-place
invariant-loop-place g l = l.numbers ≡ first_open l.values l.self.state l.place
