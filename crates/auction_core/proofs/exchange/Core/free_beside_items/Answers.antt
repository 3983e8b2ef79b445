use Rattle.std.proofs.Common.{◌-◌, ◌∙◌, ap, sym}
use Rattle.auction_core.specs.Applying.{items_cost}
use Rattle.plain_exchange.specs.State.{swept}
use Rattle.auction_core.proofs.Fitting.{free_sold, less_most}
use Rattle.auction_core.proofs.exchange.Core.free_beside_items.Goals as goal

pub returns : goal.returns
returns c = λ user d at.
    let n = c.args.n in
    let items = c.args.before.now in
    let free = c.get-free.result in
    c.saturating_sub.ensures
    ∙ ap (λ x. free - x) c.items_cost.ensures
    ∙ less_most free (items_cost n items) c.get-free.ensures.bound
    ∙ ap (λ x. x - items_cost n items) (c.get-free.ensures.value ∙ c.free_at.ensures d at)
    ∙ sym (free_sold c.args.moment user n (swept c.args.moment c.args.self.now.state) d items)
