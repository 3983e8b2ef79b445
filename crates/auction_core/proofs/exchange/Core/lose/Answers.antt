use Rattle.std.proofs.Common.{◌∙◌, ap}
use Rattle.auction_core.specs.Putting.{settled}
use Rattle.budget_book.specs.Book.{forgotten_of}
use Rattle.budget_book.specs.declared.sales.SaleState.TheVariants.{Lost}
use Rattle.budget_book.specs.Sales.{settled_in}
use Rattle.auction_core.proofs.Stating.{core_of, forgotten_same, here, settled_consistent}
use Rattle.auction_core.proofs.exchange.Core.lose.Goals as goal

pub invariant_of-self : goal.invariant_of-self
invariant_of-self c =
    let i = c.self.inside in
    let s = here i.table.campaigns i.book.campaigns i.book.sales in
    let sales = c.lose-answer.ensures.sales ∙ ap (λ f. settled_in Lost f i.book.sales c.args.sale) (ap forgotten_of c.self.invariant.funding ∙ forgotten_same s) in
    core_of i.table.campaigns c.lose-answer.new.self.campaigns c.lose-answer.new.self.sales (settled Lost c.args.sale s) c.self.invariant.listing (c.lose-answer.ensures.campaigns ∙ c.self.invariant.funding) sales
    (settled_consistent Lost c.args.sale s c.self.invariant.consistent)
