use Rattle.std.proofs.Common.{◌≡◌, ◌+◌, ◌-◌, ◌≤◌, length, get_or, sym, subst, arith}
use Rattle.std.proofs.lemmas.List.{get_or_default}
use Rattle.budget_book.specs.Accounts.{charge}
use Rattle.budget_book.specs.Book.{Funds, BookState, funds_of}
use Rattle.budget_book.specs.Sales.{committed_of}
use Rattle.budget_book.proofs.Standing.{free_is, many_campaigns}
use Rattle.budget_book.proofs.book.Book.append_row.Goals as goal

pub append-requires-clause-free : goal.append-requires-clause-free
append-requires-clause-free c = λ d.
    let i = c.self.inside in
    let there = subst (λ (v : BookState). (1 ≤ c.args.row.campaign) × (c.args.row.campaign ≤ length v.campaigns)) (sym c.self.view_is) c.requires.there in
    let free = subst (λ (v : BookState). (e : Funds) → committed_of c.args.row.campaign (get_or v.campaigns (c.args.row.campaign - 1) e).gone v.sales + charge c.args.row.state c.args.row.price ≤ (get_or v.campaigns (c.args.row.campaign - 1) e).budget) (sym c.self.view_is) c.requires.free in
    let a = get_or i.accounts.items (c.args.row.campaign - 1) d in
    let at : a ≡ get_or i.accounts.items (c.args.row.campaign - 1) a = get_or_default i.accounts.items (c.args.row.campaign - 1) d a (omega (arith, there, many_campaigns i.accounts.items)) in
    let (budget, committed) = free_is i.rows.items i.accounts.items c.args.row.campaign a (funds_of d) c.self.invariant.summed (omega (arith, there)) (omega (arith, there, many_campaigns i.accounts.items)) at in
    let pays = free (funds_of d) in
    subst (λ accounts. (get_or accounts (c.args.row.campaign - 1) d).reserved + (get_or accounts (c.args.row.campaign - 1) d).spent + charge c.args.row.state c.args.row.price ≤ (get_or accounts (c.args.row.campaign - 1) d).budget) (sym c.deref_mut.ensures.value) (omega (arith, pays, budget, committed))
