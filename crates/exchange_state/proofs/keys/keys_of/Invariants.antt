use Rattle.std.proofs.Common.{◌≡◌, map}
use Rattle.exchange_state.specs.Keys.{place_in, places}
use Rattle.exchange_state.proofs.keys.keys_of.Given as goal

-- those so far
abbrev pub invariant-loop-offer : goal.invariant-loop-offer
invariant-loop-offer l = map place_in l.keys.items ≡ places l.offer-index
