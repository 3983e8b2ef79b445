use Rattle.std.proofs.Common.{◌≡◌, get_or, map, take}
use Rattle.clearing.specs.declared.Offer.{Offer}
use Rattle.exchange_state.specs.Keys.{place_in}
use Rattle.exchange_state.proofs.keys.placed.Given as goal

-- those so far
abbrev pub invariant-loop-key : goal.invariant-loop-key
invariant-loop-key l = (d : Offer) → l.all.items ≡ map (λ key. get_or l.offers (place_in key) d) (take l.key-index l.keys)
