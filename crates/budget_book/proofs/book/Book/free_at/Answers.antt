use Rattle.std.proofs.Common.{◌≡◌, ◌+◌, ap, subst, arith}
use Rattle.budget_book.specs.declared.sales.Gone.{Gone}
use Rattle.budget_book.specs.Book.{BookState, Funds}
use Rattle.budget_book.specs.Sales.{committed_of, expired}
use Rattle.budget_book.proofs.Standing.{committed_is}
use Rattle.budget_book.proofs.book.Book.free_at.Goals as goal

pub overflow_sub-account : goal.overflow_sub-account
overflow_sub-account c =
    let a = c.account-account.result.now in
    let n = c.release-released.result in
    let rows = c.release-released.ensures in
    let sales = subst (λ (v : BookState). (gone : Gone) → n + committed_of c.args.c gone (expired c.args.moment v.sales) ≡ committed_of c.args.c gone v.sales) c.self.view_is rows in
    omega (arith, sales a.gone, committed_is c.args.c c.args.self.now.sales a c.account-account.ensures.account)

pub returns : goal.returns
returns c = λ d.
    let a = c.account-account.result.now in
    let n = c.release-released.result in
    let rows = c.release-released.ensures in
    let sales = subst (λ (v : BookState). (gone : Gone) → n + committed_of c.args.c gone (expired c.args.moment v.sales) ≡ committed_of c.args.c gone v.sales) c.self.view_is rows in
    let funds = c.account-account.ensures.funds d in
    let budget = ap (λ (p : Funds). p.budget) funds in
    let committed = ap (λ (p : Funds). committed_of c.args.c p.gone (expired c.args.moment c.args.self.now.sales)) funds in
    omega (arith, c.nanos.ensures, sales a.gone, budget, committed, committed_is c.args.c c.args.self.now.sales a c.account-account.ensures.account)
