use Rattle.std.proofs.Common.{◌≡◌, ◌∙◌, ◌≤◌, ap, arith, length, map, sym, ℕ, List}
use Rattle.exchange_state.specs.Keys.{place_in, places}
use Rattle.exchange_state.proofs.Keying.{keyed, long_as}
use Rattle.exchange_state.proofs.keys.keys_of.Goals as goal

pub loop-offer-init : goal.loop-offer-init
loop-offer-init c = ap (map place_in) c.in_ok-keys.ensures.items

pub key_of-requires : goal.key_of-requires
key_of-requires c =
    let long = long_as c.loop-offer.keys.items c.loop-offer.offer-index c.loop-offer.invariant in
    omega (arith, c.requires, c.loop-offer-test.true, ap length c.as_slice.ensures.value, long)

pub loop-offer-preserved : goal.loop-offer-preserved
loop-offer-preserved c =
    keyed c.loop-offer.keys.items c.push.new.self.items c.loop-offer.offer-index c.key_of.result c.loop-offer.invariant c.in_ok-push.ensures.items
    (c.key_of.ensures ∙ ap (λ (l : List ℕ). length l) c.as_slice.ensures.value)

pub returns : goal.returns
returns c =
    let end : c.loop-offer.offer-index ≡ length c.args.offers.now = omega (arith, c.loop-offer-test.false, c.loop-offer.auto.offer-index-end) in
    c.loop-offer.invariant ∙ ap places end
