use Rattle.std.proofs.Common.{heap_items, ◌≡◌, ◌++◌, length, take, drop, sym, subst, arith}
use Rattle.budget_book.specs.Book.{IsBook}
use Rattle.budget_book.proofs.Standing.{lent_back}
use Rattle.budget_book.proofs.book.Book.settle_numbered.Goals as goal

pub invariant_of-self : goal.invariant_of-self
invariant_of-self c =
    let i = c.self.inside in
    let n = c.settle_in.new in
    let accounts : take i.accounts.len (n.accounts ++ drop (length n.accounts) i.accounts.items) ≡ n.accounts = lent_back i.accounts.items n.accounts i.accounts.len (omega arith) in
    let was = subst (λ as_. IsBook i.forgotten as_ i.rows.items i.links.items (heap_items i.dues) i.lasts) (sym c.deref_mut.ensures.value) c.self.invariant in
    let settled = c.settle_in.ensures.book i.links.items (heap_items i.dues) i.lasts was in
    subst (λ as_. IsBook i.forgotten as_ n.rows.items i.links.items (heap_items i.dues) i.lasts) (sym accounts) settled
