use Rattle.std.proofs.Common.{heap_items, ◌≡◌, List, ◌+◌, ◌++◌, drop, length, take, sym, ◌∙◌, ap, subst, arith, None}
use Rattle.std.specs.Prelude.{IsTrue, ◌≤◌, ◌^◌}
use Rattle.budget_book.specs.declared.account.Account.{Account}
use Rattle.budget_book.specs.declared.sales.SaleRow.{SaleRow}
use Rattle.budget_book.specs.declared.sales.SaleState.TheVariants.{Held}
use Rattle.budget_book.specs.Accounts.{AreAccounts}
use Rattle.budget_book.specs.Book.{AreForgotten, BookState, IsBook, NoneHeld, forgotten_in, forgotten_of, funds_of_all}
use Rattle.budget_book.specs.Sales.{are_settled}
use Rattle.budget_book.specs.Users.{sale_place}
use Rattle.std.proofs.lemmas.List.{length-map}
use Rattle.budget_book.proofs.Oldest.{book_forgotten, campaigns_forgotten}
use Rattle.budget_book.proofs.Settled.{first_settled}
use Rattle.budget_book.proofs.Standing.{lent_back}
use Rattle.budget_book.proofs.book.Book.forget_first.Goals as goal

pub add_gone-requires-clause-count : goal.add_gone-requires-clause-count
add_gone-requires-clause-count c =
    (first_settled c.args.count c.self.inside.rows.items (subst (λ (v : BookState). IsTrue (are_settled c.args.count v.sales)) (sym c.self.view_is) c.requires.settled)).0

pub add_gone-requires-clause-settled : goal.add_gone-requires-clause-settled
add_gone-requires-clause-settled c =
    (first_settled c.args.count c.self.inside.rows.items (subst (λ (v : BookState). IsTrue (are_settled c.args.count v.sales)) (sym c.self.view_is) c.requires.settled)).1

pub invariant_of-self : goal.invariant_of-self
invariant_of-self c =
    let i = c.self.inside in
    let d = c.args.count in
    let new = c.add_gone.new.accounts in
    let any : SaleRow = record { campaign = 0; state = Held; price = 0; moment = 0; due = 0; user = None } in
    let first = first_settled d i.rows.items (subst (λ (v : BookState). IsTrue (are_settled d v.sales)) (sym c.self.view_is) c.requires.settled) in
    let few = subst (λ (v : BookState). forgotten_of v.campaigns + d ≤ 2 ^ 62) (sym c.self.view_is) c.requires.few in
    let counted = subst (λ (as_ : List Account). forgotten_of (funds_of_all new) ≡ forgotten_of (funds_of_all as_) + d) c.deref_mut.ensures.value c.add_gone.ensures.counted in
    let campaigns = subst (λ (as_ : List Account). AreForgotten (take d i.rows.items) (funds_of_all as_) (funds_of_all new)) c.deref_mut.ensures.value c.add_gone.ensures.campaigns in
    let book = book_forgotten i.forgotten d i.accounts.items new i.rows.items i.links.items (heap_items i.dues) i.lasts any c.self.invariant first.0 (omega (arith, few, c.self.invariant.counted))
    first.1 c.add_gone.ensures.summed counted campaigns in
    let lent : take i.accounts.len (new ++ drop (length new) i.accounts.items) ≡ new = lent_back i.accounts.items new i.accounts.len (omega arith) in
    let dropped = subst (λ rs. IsBook (i.forgotten + d) new rs (drop d i.links.items) (heap_items i.dues) i.lasts) (sym c.drop_front.ensures.items) book in
    let chained = subst (λ ls. IsBook (i.forgotten + d) new c.drop_front.new.items.items ls (heap_items i.dues) i.lasts) (sym c.drop_front-2.ensures.items) dropped in
    subst (λ as_. IsBook (i.forgotten + d) as_ c.drop_front.new.items.items c.drop_front-2.new.items.items (heap_items i.dues) i.lasts) (sym lent) chained

pub returns-clause-campaigns : goal.returns-clause-campaigns
returns-clause-campaigns c =
    let i = c.self.inside in
    let d = c.args.count in
    let new = c.add_gone.new.accounts in
    let campaigns = subst (λ (as_ : List Account). AreForgotten (take d i.rows.items) (funds_of_all as_) (funds_of_all new)) c.deref_mut.ensures.value c.add_gone.ensures.campaigns in
    let lent : take i.accounts.len (new ++ drop (length new) i.accounts.items) ≡ new = lent_back i.accounts.items new i.accounts.len (omega arith) in
    ap funds_of_all lent ∙ campaigns_forgotten (take d i.rows.items) (funds_of_all i.accounts.items) (funds_of_all new) campaigns
    ∙ ap (λ (v : BookState). forgotten_in (take d v.sales) v.campaigns) c.self.view_is

pub drop_front-requires : goal.drop_front-requires
drop_front-requires c =
    (first_settled c.args.count c.self.inside.rows.items (subst (λ (v : BookState). IsTrue (are_settled c.args.count v.sales)) (sym c.self.view_is) c.requires.settled)).0

pub drop_front-requires-2 : goal.drop_front-requires-2
drop_front-requires-2 c =
    let i = c.self.inside in
    let few = (first_settled c.args.count i.rows.items (subst (λ (v : BookState). IsTrue (are_settled c.args.count v.sales)) (sym c.self.view_is) c.requires.settled)).0 in
    omega (arith, few, c.self.invariant.chains.linked, length-map i.rows.items sale_place)
