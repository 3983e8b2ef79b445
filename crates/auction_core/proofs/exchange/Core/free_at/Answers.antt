use Rattle.std.proofs.Common.{◌≡◌, ◌-◌, ◌∙◌, List, ap, get_or, subst, sym, Some}
use Rattle.auction_core.specs.Core.{CoreState, funds_for}
use Rattle.budget_book.specs.Book.{Funds}
use Rattle.budget_book.specs.Sales.{committed_of, expired}
use Rattle.plain_exchange.specs.State.{campaign_at, free, swept}
use Rattle.auction_core.proofs.Stating.{funds_at, here}
use Rattle.auction_core.proofs.exchange.Core.free_at.Goals as goal

pub returns : goal.returns
returns c = λ d at.
    let i = c.self.inside in
    let s = here i.table.campaigns i.book.campaigns i.book.sales in
    let there = subst (λ (v : CoreState). campaign_at v.state c.args.n ≡ Some d) (sym c.self.view_is) at in
    let purse = ap (λ (b : List Funds). get_or b (c.args.n - 1) (funds_for d)) c.self.invariant.funding ∙ funds_at s c.args.n d (funds_for d) there in
    c.free_at.ensures (funds_for d)
    ∙ ap (λ (p : Funds). p.budget - committed_of c.args.n p.gone (expired c.args.moment i.book.sales)) purse
    ∙ ap (λ (v : CoreState). free (swept c.args.moment v.state) c.args.n d) c.self.view_is
