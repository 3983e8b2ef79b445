use Rattle.std.proofs.Common.{◌≡◌, ◌-◌, ◌∙◌, Some, ap, subst, sym}
use Rattle.auction_core.specs.Core.{CoreState, funds_for}
use Rattle.budget_book.specs.Book.{Funds}
use Rattle.budget_book.specs.Sales.{committed_of, expired}
use Rattle.campaign_store.specs.declared.record.Record.{Record}
use Rattle.plain_exchange.specs.State.{campaign_at, committed, swept}
use Rattle.auction_core.proofs.Stating.{committed_is, funds_in_book, here}
use Rattle.auction_core.proofs.exchange.Core.commitments_at.Goals as goal

pub returns : goal.returns
returns c = λ d at.
    let i = c.self.inside in
    let s = here i.table.campaigns i.book.campaigns i.book.sales in
    let there = subst (λ (v : CoreState). campaign_at v.state c.args.n ≡ Some d) (sym c.self.view_is) at in
    let budget = c.budget-budget.ensures.value ∙ ap (λ (r : Record). r.facts.budget) (c.record.ensures ∙ c.entry.ensures d at) in
    let purse = funds_in_book i.table.campaigns i.book.campaigns i.book.sales c.args.n d (funds_for d) c.self.invariant there in
    let left = c.free_at.ensures (funds_for d) ∙ ap (λ (p : Funds). p.budget - committed_of c.args.n p.gone (expired c.args.moment i.book.sales)) purse in
    c.less.ensures
    ∙ ap (λ b. b - c.free_at.result) budget
    ∙ ap (λ f. d.facts.budget - f) left
    ∙ committed_is c.args.moment s c.args.n d c.self.invariant.consistent there
    ∙ ap (λ (v : CoreState). committed (swept c.args.moment v.state) c.args.n d) c.self.view_is
