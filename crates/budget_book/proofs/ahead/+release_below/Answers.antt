use Rattle.std.proofs.Common.{sym, ◌∙◌, ap, arith}
use Rattle.budget_book.specs.Dues.{release_weight, entry_weight}
use Rattle.budget_book.proofs.Heaped.{step_below}
use Rattle.budget_book.proofs.Looking.{release_light, not_due}
use Rattle.budget_book.proofs.ahead.+release_below.Goals as goal

pub returns-in_default : goal.returns-in_default
returns-in_default t c =
    sym (not_due (release_weight c.args.campaign c.args.moment) c.args.forgotten c.args.moment c.args.rows.now.items c.args.dues.now c.args.place (release_light c.args.campaign c.args.moment) c.requires.dues c.in_default.ensures.due)

pub overflow_mul-place : goal.overflow_mul-place
overflow_mul-place t c = omega (arith, c.in-Some.ensures.due.0, c.in-Some.ensures.few)

pub overflow_add-place : goal.overflow_add-place
overflow_add-place t c = omega (arith, c.in-Some.ensures.due.0, c.in-Some.ensures.few)

pub overflow_mul-place-2 : goal.overflow_mul-place-2
overflow_mul-place-2 t c = omega (arith, c.in-Some.ensures.due.0, c.in-Some.ensures.few)

pub overflow_add-place-2 : goal.overflow_add-place-2
overflow_add-place-2 t c = omega (arith, c.in-Some.ensures.due.0, c.in-Some.ensures.few)

pub release_below-requires : goal.release_below-requires
release_below-requires t c =
    let f = entry_weight (release_weight c.args.campaign c.args.moment) c.args.forgotten c.args.rows.now.items in
    let step = step_below f c.args.dues.now c.args.place c.in-Some.entry c.in-Some.ensures.due.0 in
    (omega (arith, c.decreases, c.in-Some.ensures.due.0), (c.requires.dues, omega (arith, step, c.requires.range)))

pub release_below-requires-2 : goal.release_below-requires-2
release_below-requires-2 t c =
    let f = entry_weight (release_weight c.args.campaign c.args.moment) c.args.forgotten c.args.rows.now.items in
    let step = step_below f c.args.dues.now c.args.place c.in-Some.entry c.in-Some.ensures.due.0 in
    (omega (arith, c.decreases, c.in-Some.ensures.due.0), (c.requires.dues, omega (arith, step, c.requires.range)))

pub overflow_add-result : goal.overflow_add-result
overflow_add-result t c =
    let f = entry_weight (release_weight c.args.campaign c.args.moment) c.args.forgotten c.args.rows.now.items in
    let step = step_below f c.args.dues.now c.args.place c.in-Some.entry c.in-Some.ensures.due.0 in
    let here = c.release_one.ensures ∙ ap f c.in-Some.ensures.due.1 in
    omega (arith, step, here, c.release_below.ensures, c.requires.range)

pub overflow_add-result-2 : goal.overflow_add-result-2
overflow_add-result-2 t c =
    let f = entry_weight (release_weight c.args.campaign c.args.moment) c.args.forgotten c.args.rows.now.items in
    let step = step_below f c.args.dues.now c.args.place c.in-Some.entry c.in-Some.ensures.due.0 in
    let here = c.release_one.ensures ∙ ap f c.in-Some.ensures.due.1 in
    omega (arith, step, here, c.release_below.ensures, c.release_below-2.ensures, c.requires.range)

pub returns : goal.returns
returns t c =
    let f = entry_weight (release_weight c.args.campaign c.args.moment) c.args.forgotten c.args.rows.now.items in
    let step = step_below f c.args.dues.now c.args.place c.in-Some.entry c.in-Some.ensures.due.0 in
    let here = c.release_one.ensures ∙ ap f c.in-Some.ensures.due.1 in
    omega (arith, step, here, c.release_below.ensures, c.release_below-2.ensures)
