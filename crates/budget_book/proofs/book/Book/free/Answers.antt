use Rattle.std.proofs.Common.{◌≡◌, ◌-◌, ◌≤◌, length, get_or, sym, subst, arith}
use Rattle.budget_book.specs.Book.{Funds, BookState}
use Rattle.budget_book.specs.Sales.{committed_of}
use Rattle.budget_book.proofs.Standing.{free_is, many_campaigns}
use Rattle.budget_book.proofs.book.Book.free.Goals as goal

pub returns : goal.returns
returns c =
    let i = c.self.inside in
    let there = subst (λ (v : BookState). (1 ≤ c.args.c) × (c.args.c ≤ length v.campaigns)) (sym c.self.view_is) c.requires in
    record {
      value = subst (λ (v : BookState). (d : Funds) → c.nanos.result ≡ (get_or v.campaigns (c.args.c - 1) d).budget - committed_of c.args.c (get_or v.campaigns (c.args.c - 1) d).gone v.sales) c.self.view_is
          (λ d.
          let (budget, committed) = free_is i.rows.items i.accounts.items c.args.c c.index-account.result.now d c.self.invariant.summed (omega (arith, there)) (omega (arith, there, many_campaigns i.accounts.items)) c.index-account.ensures in
          omega (arith, budget, committed, c.nanos.ensures));
    }
