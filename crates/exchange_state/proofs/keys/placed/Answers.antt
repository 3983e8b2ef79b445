use Rattle.exchange_state.proofs.Keying.{placed_all, placed_more}
use Rattle.exchange_state.proofs.keys.placed.Goals as goal

pub loop-key-preserved : goal.loop-key-preserved
loop-key-preserved c =
    placed_more c.args.offers.now c.args.keys.now c.loop-key.key-index c.index-offers-key.result c.loop-key.all.items c.push.new.self.items c.loop-key.invariant c.loop-key-test.true c.index-offers-key.is
    (c.requires c.loop-key.key-index 0 c.loop-key-test.true) c.in_ok-push.ensures.items

pub returns : goal.returns
returns c = placed_all c.args.offers.now c.args.keys.now c.loop-key.key-index c.loop-key.all.items c.loop-key.invariant c.loop-key-test.false
