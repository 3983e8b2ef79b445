use Rattle.std.proofs.Common.{heap_items, ◌≡◌, ◌+◌, ◌≤◌, ◌++◌, ◌∷◌, [], ap, sym, ◌∙◌, subst, arith}
use Rattle.std.specs.Prelude.{◌^◌}
use Rattle.budget_book.specs.Book.{BookState, IsBook, forgotten_of}
use Rattle.budget_book.specs.Sales.{gone_count}
use Rattle.budget_book.proofs.Joining.{book_kept}
use Rattle.budget_book.proofs.book.Book.add_kept.Goals as goal

pub invariant_of-self : goal.invariant_of-self
invariant_of-self c =
    let i = c.self.inside in
    let none = subst (λ (v : BookState). v.sales ≡ []) (sym c.self.view_is) c.requires.no_sales in
    let fits = subst (λ (v : BookState). forgotten_of v.campaigns + gone_count c.args.gone ≤ 2 ^ 62) (sym c.self.view_is) c.requires.fits in
    let items = c.push_reserved.ensures.items ∙ ap (λ a. i.accounts.items ++ a ∷ []) c.new.ensures.value in
    subst (λ accounts. IsBook (i.forgotten + gone_count c.args.gone) accounts i.rows.items i.links.items (heap_items i.dues) i.lasts) (sym items)
    (book_kept i.forgotten i.accounts.items i.rows.items i.links.items (heap_items i.dues) i.lasts c.args.budget c.args.gone c.self.invariant none c.requires.spent c.new.ensures.range (omega (arith, fits, c.self.invariant.counted)))
