use Rattle.std.proofs.Common.{◌∙◌, ap, ◌+◌, ◌-◌, get_or}
use Rattle.auction_core.specs.Core.{funds_for}
use Rattle.budget_book.specs.Book.{Funds}
use Rattle.budget_book.specs.Sales.{totals_of}
use Rattle.recovery.proofs.Summing.{funds_at}
use Rattle.recovery.proofs.counts.totals.Goals as goal

pub returns : goal.returns
returns c = λ x e.
    let n = c.args.place + 1 in
    let state = c.args.core.now.state in
    c.report.ensures.value (funds_for x)
    ∙ ap (λ (sales : _). totals_of n (get_or c.book.result.now.campaigns (n - 1) (funds_for x)).gone sales) c.book.ensures.sales
    ∙ ap (λ (campaigns : _). totals_of n (get_or campaigns (n - 1) (funds_for x)).gone state.sales) c.book.ensures.campaigns
    ∙ ap (λ (f : Funds). totals_of n f.gone state.sales) (funds_at state.campaigns c.args.place x e)
