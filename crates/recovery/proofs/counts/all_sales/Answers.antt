use Rattle.std.proofs.Common.{◌+◌, ◌-◌, ◌^◌, ◌∙◌, ap, length, min}
use Rattle.budget_book.specs.Book.{forgotten_of}
use Rattle.plain_exchange.specs.State.{forgotten}
use Rattle.recovery.proofs.Summing.{forgotten_same}
use Rattle.recovery.proofs.counts.all_sales.Goals as goal

pub returns : goal.returns
returns c =
    let gone = c.forgotten.ensures ∙ ap forgotten_of c.book.ensures.campaigns ∙ forgotten_same c.args.core.now.state.campaigns in
    let listed = c.sales.ensures.value ∙ ap length c.book-2.ensures.sales in
    c.saturating_add.ensures ∙ ap (λ n. min (n + c.sales.result) (2 ^ 64 - 1)) gone ∙ ap (λ n. min (forgotten c.args.core.now.state + n) (2 ^ 64 - 1)) listed
