use Rattle.std.proofs.Common.{ℕ, ◌+◌, ◌<◌, ◌≤◌, length, get_or, subst}
use Rattle.budget_book.specs.Book.{BookState, Funds}
use Rattle.budget_book.specs.Sales.{committed_of}
use Rattle.budget_book.proofs.Standing.{budgets_within}
use Rattle.budget_book.proofs.book.Book.budgets_hold.Goals as goal

pub returns : goal.returns
returns c =
    let i = c.self.inside in
    subst (λ (v : BookState). (k : ℕ) (d : Funds) → k < length v.campaigns → committed_of (k + 1) (get_or v.campaigns k d).gone v.sales ≤ (get_or v.campaigns k d).budget) c.self.view_is
    (budgets_within i.rows.items i.accounts.items c.self.invariant.summed)
