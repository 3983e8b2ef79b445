use Rattle.std.proofs.Common.{◌∙◌, ap, leb, sym}
use Rattle.auction_core.specs.Applying.{with_sold}
use Rattle.plain_exchange.specs.State.{Campaign, campaign_at, swept}
use Rattle.plain_exchange.proofs.Keeping.{there_is}
use Rattle.auction_core.proofs.Fitting.{pays_live}
use Rattle.auction_core.proofs.exchange.Core.can_pay_beside.Goals as goal

pub returns : goal.returns
returns c = λ user.
    let s = c.args.self.now.state in
    let n = c.args.item.now.campaign in
    let price = c.args.item.now.price in
    let (d, at, live) = there_is (λ (x : Campaign). x.live) (campaign_at s n) (sym c.can_pause.ensures ∙ c.if-not-can_pause.false) in
    pays_live (with_sold c.args.moment user c.args.before.now (swept c.args.moment s)) n price d (leb c.get.result c.free_beside_items.result) at live
    (ap (λ p. leb p c.free_beside_items.result) c.get.ensures.value ∙ ap (leb price) (c.free_beside_items.ensures user d at))
