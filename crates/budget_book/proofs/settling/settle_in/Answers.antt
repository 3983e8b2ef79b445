use Rattle.std.proofs.Common.{◌≡◌, ◌-◌, get_or, set, sym, subst, arith, None}
use Rattle.std.proofs.lemmas.List.{get_or_default}
use Rattle.budget_book.specs.declared.sales.SaleRow.{SaleRow}
use Rattle.budget_book.specs.declared.sales.SaleState.TheVariants.{Held}
use Rattle.budget_book.specs.Accounts.{AreAccounts}
use Rattle.budget_book.specs.Book.{IsBook}
use Rattle.budget_book.specs.Sales.{in_state}
use Rattle.budget_book.proofs.Standing.{book_settled}
use Rattle.budget_book.proofs.settling.settle_in.Goals as goal

pub returns-clause-book : goal.returns-clause-book
returns-clause-book c = λ links dues lasts h.
    let n = c.settle.new in
    let rows = c.args.rows.now.items in
    let place = c.args.sale - c.args.forgotten - 1 in
    let any : SaleRow = record { campaign = 0; price = 0; moment = 0; due = 0; state = Held; user = None } in
    let x = get_or rows place any in
    let at : get_or rows place x ≡ x = get_or_default rows place x any (omega arith) in
    let new : n.rows.items ≡ set rows place (in_state c.args.state x) = c.settle.ensures.rows any in
    let sums = subst (λ rs. AreAccounts rs n.accounts) new c.settle.ensures.summed in
    subst (λ rs. IsBook c.args.forgotten n.accounts rs links dues lasts) (sym new)
    (book_settled c.args.forgotten c.args.accounts.now n.accounts rows place x c.args.state links dues lasts h (omega arith) at c.requires.other sums c.settle.ensures.campaigns)
