use Rattle.std.proofs.Common.{◌<◌, ◌≤◌, ◌∙◌, None, arith, length, subst, sym, take}
use Rattle.std.proofs.lemmas.List.{take_all}
use Rattle.auction_core.specs.Applying.{User, with_sold}
use Rattle.plain_exchange.specs.State.{swept}
use Rattle.auction_core.proofs.Fitting.{items_few_at_all, sold_further, unsold_further}
use Rattle.auction_core.proofs.exchange.Core.can_sell.Goals as goal

pub returns-then-not-can_sell_next-clause-value : goal.returns-then-not-can_sell_next-clause-value
returns-then-not-can_sell_next-clause-value c = λ user.
    let items = c.args.items.now in
    let k = c.loop-place.place in
    let inside : k < length items = omega (arith, c.loop-place-test.true) in
    unsold_further c.args.moment user items k c.index-items-place.result (swept c.args.moment c.args.self.now.state) inside (sym c.index-items-place.is) (c.loop-place.invariant user) (sym (c.can_sell_next.ensures user) ∙ c.if-not-can_sell_next.true)

pub loop-place-preserved : goal.loop-place-preserved
loop-place-preserved c = λ user.
    let items = c.args.items.now in
    let k = c.loop-place.place in
    let inside : k < length items = omega (arith, c.loop-place-test.true) in
    sold_further c.args.moment user items k c.index-items-place.result (swept c.args.moment c.args.self.now.state) inside (sym c.index-items-place.is) (c.loop-place.invariant user) (sym (c.can_sell_next.ensures user) ∙ c.if-not-can_sell_next.false)

pub returns-clause-few : goal.returns-clause-few
returns-clause-few c = λ e.
    let items = c.args.items.now in
    let s = swept c.args.moment c.args.self.now.state in
    let k = c.loop-place.place in
    let nobody : User = None in
    let end : length items ≤ k = omega (arith, c.loop-place-test.false) in
    subst (λ l. length l ≤ 67108864) (take_all k items end) (items_few_at_all c.args.moment nobody (take k items) s (with_sold c.args.moment nobody (take k items) s) (c.loop-place.invariant nobody))
