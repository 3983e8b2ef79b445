use Rattle.std.proofs.Common.{◌∙◌, ap}
use Rattle.auction_core.specs.Putting.{settled}
use Rattle.budget_book.specs.Book.{forgotten_of}
use Rattle.budget_book.specs.declared.sales.SaleState.TheVariants.{Billed}
use Rattle.budget_book.specs.Sales.{settled_in}
use Rattle.auction_core.proofs.Stating.{core_of, forgotten_same, here, settled_consistent}
use Rattle.auction_core.proofs.exchange.Core.bill.Goals as goal

pub invariant_of-self : goal.invariant_of-self
invariant_of-self c =
    let i = c.self.inside in
    let s = here i.table.campaigns i.book.campaigns i.book.sales in
    let sales = c.bill-answer.ensures.sales ∙ ap (λ f. settled_in Billed f i.book.sales c.args.sale) (ap forgotten_of c.self.invariant.funding ∙ forgotten_same s) in
    core_of i.table.campaigns c.bill-answer.new.self.campaigns c.bill-answer.new.self.sales (settled Billed c.args.sale s) c.self.invariant.listing (c.bill-answer.ensures.campaigns ∙ c.self.invariant.funding) sales
    (settled_consistent Billed c.args.sale s c.self.invariant.consistent)
