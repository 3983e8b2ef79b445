use Rattle.std.proofs.Common.{heap_items, ◌≡◌, ◌++◌, length, take, drop, ap, sym, ◌∙◌, subst, arith}
use Rattle.budget_book.specs.Book.{IsBook, funds_of_all}
use Rattle.budget_book.proofs.Standing.{book_swept, lent_back}
use Rattle.budget_book.proofs.book.Book.sweep.Goals as goal

pub invariant_of-self : goal.invariant_of-self
invariant_of-self c =
    let i = c.self.inside in
    let n = c.sweep_dues.new in
    let accounts : take i.accounts.len (n.accounts ++ drop (length n.accounts) i.accounts.items) ≡ n.accounts = lent_back i.accounts.items n.accounts i.accounts.len (omega arith) in
    let swept = book_swept c.args.moment c.sweep_dues.result i.forgotten i.accounts.items n.accounts i.rows.items n.rows.items i.links.items (heap_items i.dues) (heap_items n.dues) i.lasts c.self.invariant c.sweep_dues.ensures.expiry c.sweep_dues.ensures.summed (c.sweep_dues.ensures.campaigns ∙ ap funds_of_all c.deref_mut.ensures.value) c.sweep_dues.ensures.dues in
    subst (λ as_. IsBook i.forgotten as_ n.rows.items i.links.items (heap_items n.dues) i.lasts) (sym accounts) swept
