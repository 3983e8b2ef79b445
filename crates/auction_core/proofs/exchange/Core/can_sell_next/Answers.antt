use Rattle.std.proofs.Common.{◌+◌, ◌&&◌, ◌∙◌, ap, length, sym}
use Rattle.std.specs.Prelude.{nat_lt}
use Rattle.auction_core.specs.Applying.{with_sold}
use Rattle.plain_exchange.specs.Effects.{has_room}
use Rattle.plain_exchange.specs.State.{most_sales, swept}
use Rattle.auction_core.proofs.Fitting.{many_sold}
use Rattle.auction_core.proofs.exchange.Core.can_sell_next.Goals as goal

pub returns-then-pays : goal.returns-then-pays
returns-then-pays c = λ user.
    let m = c.args.moment in
    let s = c.args.self.now.state in
    let before = c.args.before.now in
    ap (λ n. nat_lt n most_sales) (ap (λ n. n + length before) c.sales.ensures.value ∙ sym (many_sold m user before s))
    ∙ sym (ap (λ b. b && has_room (with_sold m user before (swept m s))) (sym (c.can_pay_beside-pays.ensures user) ∙ c.if-pays.true))

pub returns-else-pays : goal.returns-else-pays
returns-else-pays c = λ user.
    c.if-pays.false ∙ sym (ap (λ b. b && has_room (with_sold c.args.moment user c.args.before.now (swept c.args.moment c.args.self.now.state))) (sym (c.can_pay_beside-pays.ensures user) ∙ c.if-pays.false))
