use Rattle.std.proofs.Common.{heap_items, ◌++◌, ◌∷◌, [], ap, sym, ◌∙◌, subst}
use Rattle.budget_book.specs.Accounts.{fresh}
use Rattle.budget_book.specs.Book.{IsBook}
use Rattle.budget_book.proofs.Joining.{book_new_campaign}
use Rattle.budget_book.proofs.book.Book.add_campaign.Goals as goal

pub invariant_of-self : goal.invariant_of-self
invariant_of-self c =
    let i = c.self.inside in
    let items = c.push_reserved.ensures.items ∙ ap (λ a. i.accounts.items ++ a ∷ []) (c.new.ensures.value ∙ ap (fresh c.args.budget) c.none.ensures) in
    subst (λ accounts. IsBook i.forgotten accounts i.rows.items i.links.items (heap_items i.dues) i.lasts) (sym items)
    (book_new_campaign i.forgotten i.accounts.items i.rows.items i.links.items (heap_items i.dues) i.lasts c.args.budget c.self.invariant c.new.ensures.range)
