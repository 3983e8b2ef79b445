use Rattle.std.proofs.Common.{◌≤◌, length, sym, subst, arith}
use Rattle.budget_book.specs.Accounts.{IsAccount}
use Rattle.budget_book.specs.Book.{BookState}
use Rattle.budget_book.proofs.Standing.{account_at, many_campaigns}
use Rattle.budget_book.proofs.book.Book.account.Goals as goal

pub returns-clause-account : goal.returns-clause-account
returns-clause-account c =
    let i = c.self.inside in
    let there = subst (λ (v : BookState). (1 ≤ c.args.c) × (c.args.c ≤ length v.campaigns)) (sym c.self.view_is) c.requires in
    subst (λ (v : BookState). IsAccount c.args.c v.sales c.index.result.now) c.self.view_is
    (account_at i.rows.items i.accounts.items c.args.c c.index.result.now c.self.invariant.summed (omega (arith, there)) (omega (arith, there, many_campaigns i.accounts.items)) c.index.ensures)
