use Rattle.std.proofs.Common.{◌+◌, ℕ, Option, ap, ◌∙◌}
use Rattle.std.specs.Option.{option_map_or}
use Rattle.budget_book.specs.Book.{forgotten_of}
use Rattle.budget_book.specs.declared.sales.SaleRow.{SaleRow}
use Rattle.made_run.proofs.Held.{reserved_more}
use Rattle.made_run.specs.Runs.{held_price}
use Rattle.made_run.proofs.reserving.price_at.Goals as goal

pub returns : goal.returns
returns c =
    let place = c.args.place in
    let before = c.in_ok-before.ensures ∙ ap (λ (n : ℕ). n + place) c.forgotten.ensures in
    let number = c.in_ok-number.ensures ∙ ap (λ (n : ℕ). n + 1) before in
    let price = c.price_of-price.ensures ∙ ap (λ (o : Option SaleRow). option_map_or held_price o 0) c.in_ok-row.ensures in
    reserved_more (forgotten_of c.args.book.now.campaigns) place c.in_ok-number.number c.price_of-price.result c.args.book.now.sales c.requires number price
