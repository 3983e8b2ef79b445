use Rattle.std.proofs.Common.{◌≡◌, ◌∙◌, Some, ap, subst, sym}
use Rattle.auction_core.specs.Core.{CoreState, funds_for}
use Rattle.budget_book.specs.Book.{Funds}
use Rattle.campaign_store.specs.declared.record.Record.{Record}
use Rattle.plain_exchange.specs.State.{campaign_at}
use Rattle.auction_core.proofs.Keeping.{kept_parts}
use Rattle.auction_core.proofs.Stating.{funds_in_book}
use Rattle.auction_core.proofs.exchange.Core.kept_campaign.Goals as goal

pub returns : goal.returns
returns c = λ d at.
    let i = c.self.inside in
    let there = subst (λ (v : CoreState). campaign_at v.state c.args.n ≡ Some d) (sym c.self.view_is) at in
    let entry = c.record.ensures ∙ c.entry.ensures d at in
    let copies = c.in_ok-copies.copies in
    let facts = ap (λ p. p.0) c.in_ok-copies.ensures ∙ ap (λ (r : Record). r.facts) entry in
    let expr = ap (λ p. p.1) c.in_ok-copies.ensures ∙ ap (λ (r : Record). r.expr) entry in
    let purse = funds_in_book i.table.campaigns i.book.campaigns i.book.sales c.args.n d (funds_for d) c.self.invariant there in
    c.campaign_effect.ensures
    ∙ kept_parts d c.is_live.result copies.0 copies.1 c.gone.result (c.is_live.ensures d at) facts expr
    (c.gone.ensures (funds_for d) ∙ ap (λ (p : Funds). p.gone) purse)
