use Rattle.std.proofs.Common.{◌≡◌, ◌-◌, ◌≤◌, length, get_or, refl, sym, subst, arith}
use Rattle.budget_book.specs.Book.{Funds, BookState}
use Rattle.budget_book.specs.declared.sales.Totals.{Totals}
use Rattle.budget_book.specs.Sales.{totals_of}
use Rattle.budget_book.proofs.Standing.{many_campaigns, report_is}
use Rattle.budget_book.proofs.book.Book.report.Goals as goal

pub returns : goal.returns
returns c =
    let i = c.self.inside in
    let a = c.index-account.result.now in
    let there = subst (λ (v : BookState). (1 ≤ c.args.c) × (c.args.c ≤ length v.campaigns)) (sym c.self.view_is) c.requires in
    let t : Totals = record { reserved = c.nanos.result; spent = c.nanos-2.result; held = a.held; billed = a.billed; lost = a.lost; expired = a.expired } in
    record {
      value = subst (λ (v : BookState). (d : Funds) → t ≡ totals_of c.args.c (get_or v.campaigns (c.args.c - 1) d).gone v.sales) c.self.view_is
          (λ d. report_is i.rows.items i.accounts.items c.args.c a d t c.self.invariant.summed (omega (arith, there)) (omega (arith, there, many_campaigns i.accounts.items)) c.index-account.ensures c.nanos.ensures c.nanos-2.ensures refl refl refl refl);
    }
