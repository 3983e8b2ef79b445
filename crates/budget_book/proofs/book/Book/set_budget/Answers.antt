use Rattle.std.proofs.Common.{heap_items, ◌≡◌, ◌-◌, ◌<◌, ◌≤◌, length, get_or, set, sym, ◌∙◌, ap, subst, arith}
use Rattle.std.proofs.lemmas.List.{get_or_default}
use Rattle.budget_book.specs.declared.account.Account.{Account}
use Rattle.budget_book.specs.Accounts.{with_budget}
use Rattle.budget_book.specs.Book.{BookState, Funds, IsBook, funds_of_all}
use Rattle.budget_book.specs.Sales.{committed_of}
use Rattle.budget_book.proofs.Joining.{book_budget, budget_campaigns, budgeted}
use Rattle.budget_book.proofs.Standing.{free_is, many_campaigns}
use Rattle.budget_book.proofs.book.Book.set_budget.Goals as goal

pub returns-then-get-committed-clause-err : goal.returns-then-get-committed-clause-err
returns-then-get-committed-clause-err c =
    let i = c.self.inside in
    let there = subst (λ (v : BookState). (1 ≤ c.args.c) × (c.args.c ≤ length v.campaigns)) (sym c.self.view_is) c.requires in
    let n = c.nanos.result in
    subst (λ (v : BookState). (d : Funds) → (n ≡ committed_of c.args.c (get_or v.campaigns (c.args.c - 1) d).gone v.sales) × (c.args.budget < n)) c.self.view_is
    (λ d.
    let (budget, committed) = free_is i.rows.items i.accounts.items c.args.c c.index-account.result.now d c.self.invariant.summed (omega (arith, there)) (omega (arith, there, many_campaigns i.accounts.items)) c.index-account.ensures in
    (omega (arith, c.nanos.ensures, committed), omega (arith, c.nanos.ensures, c.get.ensures.value, c.if-get-committed.true)))

pub returns-clause-ok : goal.returns-clause-ok
returns-clause-ok c =
    let i = c.self.inside in
    let there = subst (λ (v : BookState). (1 ≤ c.args.c) × (c.args.c ≤ length v.campaigns)) (sym c.self.view_is) c.requires in
    subst (λ (v : BookState). (d : Funds) → committed_of c.args.c (get_or v.campaigns (c.args.c - 1) d).gone v.sales ≤ c.args.budget) c.self.view_is
    (λ d.
    let (budget, committed) = free_is i.rows.items i.accounts.items c.args.c c.index-account.result.now d c.self.invariant.summed (omega (arith, there)) (omega (arith, there, many_campaigns i.accounts.items)) c.index-account.ensures in
    omega (arith, committed, c.get.ensures.value, c.if-get-committed.false))

pub invariant_of-self : goal.invariant_of-self
invariant_of-self c =
    let i = c.self.inside in
    let there = subst (λ (v : BookState). (1 ≤ c.args.c) × (c.args.c ≤ length v.campaigns)) (sym c.self.view_is) c.requires in
    let a : Account = c.index_mut.result.now in
    let b : Account = c.index-account.result.now in
    let k = c.args.c - 1 in
    let inside : k < length i.accounts.items = omega (arith, there, many_campaigns i.accounts.items) in
    let read : get_or i.accounts.items k a ≡ b = get_or_default i.accounts.items k a b inside ∙ sym c.index-account.ensures in
    let reserved : (get_or i.accounts.items k a).reserved ≡ b.reserved = ap (λ (x : Account). x.reserved) read in
    let spent : (get_or i.accounts.items k a).spent ≡ b.spent = ap (λ (x : Account). x.spent) read in
    subst (λ (x : Account). IsBook i.forgotten (set i.accounts.items k (with_budget c.get-2.result x)) i.rows.items i.links.items (heap_items i.dues) i.lasts) (sym c.index_mut.ensures.value)
    (book_budget i.forgotten i.accounts.items i.rows.items i.links.items (heap_items i.dues) i.lasts k c.get-2.result a c.self.invariant inside
    (omega (arith, reserved, spent, c.if-get-committed.false, c.get.ensures.value, c.get-2.ensures.value)) c.get-2.ensures.bound)

pub returns-clause-campaigns : goal.returns-clause-campaigns
returns-clause-campaigns c = λ d.
    let i = c.self.inside in
    let there = subst (λ (v : BookState). (1 ≤ c.args.c) × (c.args.c ≤ length v.campaigns)) (sym c.self.view_is) c.requires in
    let a : Account = c.index_mut.result.now in
    let k = c.args.c - 1 in
    ap (λ (x : Account). funds_of_all (set i.accounts.items k (with_budget c.get-2.result x))) c.index_mut.ensures.value
    ∙ budget_campaigns i.accounts.items k c.get-2.result a d (omega (arith, there, many_campaigns i.accounts.items))
    ∙ ap (λ n. set (funds_of_all i.accounts.items) k (budgeted n (get_or (funds_of_all i.accounts.items) k d))) c.get-2.ensures.value
    ∙ ap (λ (v : BookState). set v.campaigns k (budgeted c.args.budget (get_or v.campaigns k d))) c.self.view_is
