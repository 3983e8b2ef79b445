use Rattle.std.proofs.Common.{◌∙◌, ap, drop, sym}
use Rattle.auction_core.specs.Core.{CoreState}
use Rattle.budget_book.specs.Book.{forgotten_of}
use Rattle.budget_book.specs.Sales.{forgettable}
use Rattle.plain_exchange.specs.State.{forget}
use Rattle.plain_exchange.proofs.Forgetting.{forget_kept}
use Rattle.auction_core.proofs.Stating.{core_of, forgotten_book, forgotten_same, forgotten_table, here, state_is}
use Rattle.auction_core.proofs.exchange.Core.forget.Goals as goal

pub invariant_of-self : goal.invariant_of-self
invariant_of-self c =
    let i = c.self.inside in
    let s = here i.table.campaigns i.book.campaigns i.book.sales in
    let same = ap forgotten_of c.self.invariant.funding ∙ forgotten_same s in
    core_of i.table.campaigns c.forget.new.self.campaigns c.forget.new.self.sales (forget c.args.keep s)
    (c.self.invariant.listing ∙ sym (forgotten_table c.args.keep s)) (c.forget.ensures.campaigns ∙ forgotten_book c.args.keep s i.book.campaigns c.self.invariant.funding)
    (c.forget.ensures.sales ∙ ap (λ f. drop (forgettable c.args.keep f i.book.sales) i.book.sales) same)
    (forget_kept c.args.keep s c.self.invariant.consistent)

pub returns-clause-state : goal.returns-clause-state
returns-clause-state c =
    let i = c.self.inside in
    let s = here i.table.campaigns i.book.campaigns i.book.sales in
    let same = ap forgotten_of c.self.invariant.funding ∙ forgotten_same s in
    state_is i.table.campaigns c.forget.new.self.campaigns c.forget.new.self.sales (forget c.args.keep s)
    (c.self.invariant.listing ∙ sym (forgotten_table c.args.keep s)) (c.forget.ensures.campaigns ∙ forgotten_book c.args.keep s i.book.campaigns c.self.invariant.funding)
    (c.forget.ensures.sales ∙ ap (λ f. drop (forgettable c.args.keep f i.book.sales) i.book.sales) same)
    ∙ ap (λ (v : CoreState). forget c.args.keep v.state) c.self.view_is
