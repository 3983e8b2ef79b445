use Rattle.std.proofs.Common.{◌∙◌, ◌<◌, ◌++◌, ap, arith, get_or, length, sym}
use Rattle.auction_core.specs.Auctions.{beside, offers_at}
use Rattle.auction_core.proofs.Auctioning.{flat_further}
use Rattle.auction_core.proofs.Touching.{number_there}
use Rattle.auction_core.proofs.exchange.Core.offers.Goals as goal

pub push_offers-requires-clause-there : goal.push_offers-requires-clause-there
push_offers-requires-clause-there c =
    let k = c.loop-number.number-index in
    let inside : k < length c.args.numbers.now = omega arith in
    number_there c.args.self.now.state c.args.numbers.now k 0 c.requires.there inside

pub loop-number-preserved : goal.loop-number-preserved
loop-number-preserved c = λ i at.
    let r = c.args.asked.now in
    let m = c.args.moment in
    let t = beside c.args.self.now.settings m r c.args.self.now.state c.args.awards.now in
    let k = c.loop-number.number-index in
    let inside : k < length c.args.numbers.now = omega arith in
    c.in_ok-push_offers.ensures i at
    ∙ ap (λ l. l ++ offers_at t r i m (get_or c.args.numbers.now k 0)) (c.loop-number.invariant i at)
    ∙ sym (flat_further (offers_at t r i m) c.args.numbers.now k 0 inside)
