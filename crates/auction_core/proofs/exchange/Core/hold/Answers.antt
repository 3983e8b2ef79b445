use Rattle.std.proofs.Common.{◌∙◌, ◌∷◌, [], sym, subst}
use Rattle.std.specs.Prelude.{IsTrue}
use Rattle.auction_core.specs.Core.{CoreState}
use Rattle.plain_exchange.specs.Effects.{can_pay, has_room, sale_by}
use Rattle.plain_exchange.specs.State.{with_sales}
use Rattle.plain_exchange.proofs.Keeping.{item_kept}
use Rattle.auction_core.proofs.Stating.{core_of, here}
use Rattle.auction_core.proofs.exchange.Core.hold.Goals as goal

pub invariant_of-self : goal.invariant_of-self
invariant_of-self c =
    let i = c.self.inside in
    let item = c.args.item.now in
    let s = here i.table.campaigns i.book.campaigns i.book.sales in
    let pays = subst (λ (v : CoreState). IsTrue (can_pay v.state item.campaign item.price)) (sym c.self.view_is) c.requires.pays in
    let few = subst (λ (v : CoreState). IsTrue (has_room v.state)) (sym c.self.view_is) c.requires.few in
    core_of i.table.campaigns c.sell.new.self.campaigns c.sell.new.self.sales (with_sales s (sale_by c.args.moment c.args.key item ∷ [])) c.self.invariant.listing (c.sell.ensures.campaigns ∙ c.self.invariant.funding) c.sell.ensures.sales
    (item_kept c.args.moment c.args.key item s c.self.invariant.consistent pays few)
