use Rattle.std.proofs.Common.{heap_items, ◌+◌, ◌∙◌, ap, arith}
use Rattle.budget_book.specs.Dues.{entry_weight, release_weight, sum_below}
use Rattle.budget_book.specs.Sales.{committed_of, expired}
use Rattle.budget_book.proofs.Looking.{all_sum, release_bound, released}
use Rattle.budget_book.proofs.ahead.release.Goals as goal

pub release_below-requires-clause-range : goal.release_below-requires-clause-range
release_below-requires-clause-range c =
    let rows = c.args.rows.now.items in
    let w = release_weight c.args.campaign c.args.moment in
    let all = all_sum w c.args.forgotten rows (heap_items c.args.dues.now) c.requires.dues in
    omega (arith, ap (λ ds. sum_below (entry_weight w c.args.forgotten rows) ds 0) c.as_slice.ensures.value, all, release_bound c.args.campaign c.args.moment (c.args.forgotten + 1) rows, c.requires.range)

pub returns : goal.returns
returns c = λ gone.
    let rows = c.args.rows.now.items in
    let w = release_weight c.args.campaign c.args.moment in
    let all = c.release_below.ensures ∙ ap (λ ds. sum_below (entry_weight w c.args.forgotten rows) ds 0) c.as_slice.ensures.value ∙ all_sum w c.args.forgotten rows (heap_items c.args.dues.now) c.requires.dues in
    ap (λ n. n + committed_of c.args.campaign gone (expired c.args.moment rows)) all ∙ released c.args.campaign c.args.moment (c.args.forgotten + 1) rows gone
