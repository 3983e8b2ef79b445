use Rattle.std.proofs.Common.{◌≡◌, ◌∙◌, ap, subst, sym, Some}
use Rattle.auction_core.specs.Core.{CoreState, funds_for}
use Rattle.budget_book.specs.Book.{Funds}
use Rattle.budget_book.specs.Sales.{totals_of}
use Rattle.plain_exchange.specs.State.{campaign_at, totals}
use Rattle.auction_core.proofs.Stating.{funds_in_book}
use Rattle.auction_core.proofs.exchange.Core.totals.Goals as goal

pub returns : goal.returns
returns c = λ d at.
    let i = c.self.inside in
    let there = subst (λ (v : CoreState). campaign_at v.state c.args.n ≡ Some d) (sym c.self.view_is) at in
    c.report.ensures.value (funds_for d)
    ∙ ap (λ (p : Funds). totals_of c.args.n p.gone i.book.sales) (funds_in_book i.table.campaigns i.book.campaigns i.book.sales c.args.n d (funds_for d) c.self.invariant there)
    ∙ ap (λ (v : CoreState). totals v.state c.args.n d) c.self.view_is
