use Rattle.std.proofs.Common.{◌∙◌, ◌∷◌, [], sym, subst}
use Rattle.std.specs.Prelude.{IsTrue}
use Rattle.auction_core.specs.Core.{CoreState}
use Rattle.plain_exchange.specs.Effects.{can_keep_sale}
use Rattle.plain_exchange.specs.State.{with_sales}
use Rattle.plain_exchange.proofs.Keeping.{kept_sale_kept}
use Rattle.auction_core.proofs.Fitting.{fit}
use Rattle.auction_core.proofs.Stating.{core_of, here}
use Rattle.auction_core.proofs.exchange.Core.keep_sale.Goals as goal

pub invariant_of-self : goal.invariant_of-self
invariant_of-self c =
    let i = c.self.inside in
    let row = c.args.row in
    let s = here i.table.campaigns i.book.campaigns i.book.sales in
    let u = with_sales s (row ∷ []) in
    let fits = subst (λ (v : CoreState). IsTrue (can_keep_sale v.state row)) (sym c.self.view_is) c.requires.fits in
    core_of i.table.campaigns c.add_sale.new.self.campaigns c.add_sale.new.self.sales u c.self.invariant.listing (c.add_sale.ensures.campaigns ∙ c.self.invariant.funding) c.add_sale.ensures.sales
    (kept_sale_kept row s u c.self.invariant.consistent (fit (can_keep_sale s row) u fits))
