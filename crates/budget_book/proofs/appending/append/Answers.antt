use Rattle.std.proofs.Common.{heap_items, ◌≡◌, ◌+◌, ◌-◌, ◌++◌, ◌∷◌, [], length, get_or, set, sym, ◌∙◌, ap, subst, arith}
use Rattle.std.specs.Prelude.{option_map}
use Rattle.budget_book.specs.Accounts.{with_sale}
use Rattle.budget_book.specs.Book.{IsBook, funds_of}
use Rattle.budget_book.specs.LastSales.{place_by}
use Rattle.budget_book.specs.Users.{IsLinked, sale_place}
use Rattle.budget_book.proofs.Chained.{place_mapped}
use Rattle.budget_book.proofs.Moving.{counts_fit, same_campaigns, with_sale_funds}
use Rattle.budget_book.proofs.Standing.{book_added, book_gone_few}
use Rattle.budget_book.proofs.appending.append.Goals as goal

pub add-requires-clause-billed : goal.add-requires-clause-billed
add-requires-clause-billed c =
    let b = c.requires.book in
    let there = c.requires.there in
    (counts_fit c.args.rows.now.items c.args.accounts.now (c.args.row.campaign - 1) c.index-accounts-row.result (omega (arith, there)) b.few b.summed (book_gone_few _ _ _ _ _ _ b)).0

pub add-requires-clause-lost : goal.add-requires-clause-lost
add-requires-clause-lost c =
    let b = c.requires.book in
    let there = c.requires.there in
    (counts_fit c.args.rows.now.items c.args.accounts.now (c.args.row.campaign - 1) c.index-accounts-row.result (omega (arith, there)) b.few b.summed (book_gone_few _ _ _ _ _ _ b)).1

pub add-requires-clause-expired : goal.add-requires-clause-expired
add-requires-clause-expired c =
    let b = c.requires.book in
    let there = c.requires.there in
    (counts_fit c.args.rows.now.items c.args.accounts.now (c.args.row.campaign - 1) c.index-accounts-row.result (omega (arith, there)) b.few b.summed (book_gone_few _ _ _ _ _ _ b)).2

pub returns-clause-book : goal.returns-clause-book
returns-clause-book c =
    let there = c.requires.there in
    let k = c.args.row.campaign - 1 in
    let n : c.args.forgotten + c.len.result + 1 ≡ c.args.forgotten + length c.args.rows.now.items + 1 = omega arith in
    let place : option_map (place_by c.args.row.campaign) c.args.user_hash ≡ sale_place c.args.row = ap (option_map (place_by c.args.row.campaign)) c.requires.user ∙ place_mapped c.args.row.campaign c.args.row.user in
    let own = subst (λ o. IsLinked c.args.lasts.now c.link-back.new.lasts o (c.args.forgotten + c.len.result + 1) c.link-back.result) place c.link-back.ensures.linked in
    let linked = subst (λ m. IsLinked c.args.lasts.now c.link-back.new.lasts (sale_place c.args.row) m c.link-back.result) n own in
    let e = c.index-accounts-row.result in
    let price = c.get.ensures.value in
    let is = c.add.ensures ∙ ap (λ p. with_sale c.args.row.state p (get_or c.args.accounts.now k e)) price in
    let awaited = c.await_sale.ensures.dues c.args.forgotten c.args.rows.now.items n c.requires.book.awaited in
    let book = book_added c.args.forgotten c.args.accounts.now c.add.new.self e c.args.rows.now.items c.args.row c.args.links.now.items (heap_items c.args.dues.now) (heap_items c.await_sale.new.dues) c.args.lasts.now c.link-back.new.lasts c.link-back.result k
    c.requires.book c.requires.few (omega (arith, there)) (omega (arith, there)) (c.requires.free e) is awaited linked in
    subst (λ rs. IsBook c.args.forgotten (set c.args.accounts.now k c.add.new.self) rs c.push_back_reserved.new.self.items (heap_items c.await_sale.new.dues) c.link-back.new.lasts) (sym c.push_back_reserved-2.ensures.items)
    (subst (λ ls. IsBook c.args.forgotten (set c.args.accounts.now k c.add.new.self) (c.args.rows.now.items ++ c.args.row ∷ []) ls (heap_items c.await_sale.new.dues) c.link-back.new.lasts) (sym c.push_back_reserved.ensures.items) book)

pub returns-clause-campaigns : goal.returns-clause-campaigns
returns-clause-campaigns c =
    let there = c.requires.there in
    let e = c.index-accounts-row.result in
    same_campaigns c.args.accounts.now (c.args.row.campaign - 1) c.add.new.self e (omega (arith, there))
    (ap funds_of c.add.ensures ∙ with_sale_funds c.args.row.state c.get.result (get_or c.args.accounts.now (c.args.row.campaign - 1) e))
