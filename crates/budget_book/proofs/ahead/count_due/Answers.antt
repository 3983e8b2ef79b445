use Rattle.std.proofs.Common.{heap_items, ◌+◌, ◌∙◌, ap, arith}
use Rattle.budget_book.specs.Dues.{due_weight, entry_weight, sum_below}
use Rattle.budget_book.proofs.Looking.{all_sum, due_few, due_weight_is}
use Rattle.budget_book.proofs.ahead.count_due.Goals as goal

pub count_below-requires-clause-few : goal.count_below-requires-clause-few
count_below-requires-clause-few c =
    let rows = c.args.rows.now.items in
    let f = entry_weight (due_weight c.args.moment) c.args.forgotten rows in
    let all = all_sum (due_weight c.args.moment) c.args.forgotten rows (heap_items c.args.dues.now) c.requires.dues in
    omega (arith, ap (λ ds. sum_below f ds 0) c.as_slice.ensures.value, all, due_few c.args.moment (c.args.forgotten + 1) rows, c.requires.few)

pub returns : goal.returns
returns c =
    let rows = c.args.rows.now.items in
    let f = entry_weight (due_weight c.args.moment) c.args.forgotten rows in
    c.count_below.ensures ∙ ap (λ ds. sum_below f ds 0) c.as_slice.ensures.value
    ∙ all_sum (due_weight c.args.moment) c.args.forgotten rows (heap_items c.args.dues.now) c.requires.dues ∙ due_weight_is c.args.moment (c.args.forgotten + 1) rows
