use Rattle.std.proofs.Common.{◌++◌, ap, sym}
use Rattle.auction_core.specs.Found.{candidates_among}
use Rattle.exchange_state.proofs.Walks.{walked_all, walked_more}
use Rattle.exchange_state.proofs.finding.walk.Goals as goal

pub loop-number-init : goal.loop-number-init
loop-number-init c = λ i at rise is. record {
  numbers_left = sym is;
  all = ap (λ os. os ++ candidates_among c.args.live.now c.args.asked.now i) c.in_ok-offers.ensures.items;
  rise = rise;
}

pub loop-number-preserved : goal.loop-number-preserved
loop-number-preserved c = λ i at rise is.
    let r = c.args.asked.now in
    let rest = c.loop-number.rest.now in
    let so_far = c.loop-number.invariant i at rise is in
    walked_more r i c.args.live.now rest c.in_ok-rest.rest.now c.args.numbers.now c.loop-number.number-index c.loop-number.offers.items c.push_of.new.offers.items c.loop-number-test.true so_far
    (c.in_ok-rest.ensures.pushed i at so_far.rise) (c.in_ok-rest.ensures.rest so_far.rise)

pub returns : goal.returns
returns c = λ i at rise is.
    walked_all c.args.asked.now i c.args.live.now c.loop-number.rest.now c.args.numbers.now c.loop-number.number-index c.loop-number.offers.items c.loop-number-test.false (c.loop-number.invariant i at rise is)
