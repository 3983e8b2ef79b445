use Rattle.std.proofs.Common.{◌≡◌, ap, ◌∙◌, take, drop}
use Rattle.budget_book.specs.Book.{BookState, forgotten_in, forgotten_of}
use Rattle.budget_book.specs.Sales.{forgettable}
use Rattle.budget_book.proofs.book.Book.forget.Goals as goal

pub returns-clause-campaigns : goal.returns-clause-campaigns
returns-clause-campaigns c =
    let v = c.args.self.now in
    let n : c.forgettable-count.result ≡ forgettable c.args.keep (forgotten_of v.campaigns) v.sales =
    c.forgettable-count.ensures ∙ ap (λ f. forgettable c.args.keep f c.self.inside.rows.items) c.self.invariant.counted ∙ ap (λ (v : BookState). forgettable c.args.keep (forgotten_of v.campaigns) v.sales) c.self.view_is in
    c.forget_first.ensures.campaigns ∙ ap (λ m. forgotten_in (take m v.sales) v.campaigns) n

pub returns-clause-sales : goal.returns-clause-sales
returns-clause-sales c =
    let v = c.args.self.now in
    let n : c.forgettable-count.result ≡ forgettable c.args.keep (forgotten_of v.campaigns) v.sales =
    c.forgettable-count.ensures ∙ ap (λ f. forgettable c.args.keep f c.self.inside.rows.items) c.self.invariant.counted ∙ ap (λ (v : BookState). forgettable c.args.keep (forgotten_of v.campaigns) v.sales) c.self.view_is in
    c.forget_first.ensures.sales ∙ ap (λ m. drop m v.sales) n
