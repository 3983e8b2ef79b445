use Rattle.std.proofs.Common.{◌∙◌, ◌<◌, length, map, ap, arith}
use Rattle.std.proofs.lemmas.List.{take_all}
use Rattle.auction_core.specs.Draft.{found_for}
use Rattle.live_index.specs.Reached.{imp_cost}
use Rattle.live_index.proofs.Fronts.{item_at}
use Rattle.live_index.proofs.Reaching.{cost_of_front, cost_of_one_more, cost_within, pushed}
use Rattle.live_index.proofs.reached.find_for_imps.Goals as goal

pub loop-imp-preserved : goal.loop-imp-preserved
loop-imp-preserved g c =
    let r = c.args.request.now in
    let k = c.loop-imp.imp in
    let inside : k < length r.imps = omega (arith, c.len-imp-end.ensures, c.loop-imp-test.true) in
    let (i, at) = item_at r.imps k inside in (
      λ s is. c.in_ok-push.ensures.items ∙ pushed (found_for s r) r.imps k i c.loop-imp.found.items c.in_ok-numbers.numbers inside at (c.loop-imp.invariant.0 s is) (c.in_ok-numbers.ensures.answer i at s is),
      omega (arith, c.loop-imp.invariant.1, c.in_ok-numbers.ensures.cost i at, cost_of_one_more (imp_cost c.args.index.now r) r.imps k i inside at),
    )

pub returns-in_err-numbers-clause-cost : goal.returns-in_err-numbers-clause-cost
returns-in_err-numbers-clause-cost g c =
    let r = c.args.request.now in
    let k = c.loop-imp.imp in
    let inside : k < length r.imps = omega (arith, c.len-imp-end.ensures, c.loop-imp-test.true) in
    let (i, at) = item_at r.imps k inside in
    omega (arith, c.loop-imp.invariant.1, c.in_err-numbers.ensures.cost i at, cost_within (imp_cost c.args.index.now r) r.imps k i inside at)

pub returns-in_err-push-clause-cost : goal.returns-in_err-push-clause-cost
returns-in_err-push-clause-cost g c =
    let r = c.args.request.now in
    let k = c.loop-imp.imp in
    let inside : k < length r.imps = omega (arith, c.len-imp-end.ensures, c.loop-imp-test.true) in
    let (i, at) = item_at r.imps k inside in
    omega (arith, c.loop-imp.invariant.1, c.in_ok-numbers.ensures.cost i at, cost_within (imp_cost c.args.index.now r) r.imps k i inside at)

pub returns-clause-answer : goal.returns-clause-answer
returns-clause-answer g c = λ s is.
    let r = c.args.request.now in
    c.loop-imp.invariant.0 s is ∙ ap (map (found_for s r)) (take_all c.loop-imp.imp r.imps (omega (arith, c.len-imp-end.ensures, c.loop-imp-test.false)))

pub returns-clause-cost : goal.returns-clause-cost
returns-clause-cost g c =
    let r = c.args.request.now in
    omega (arith, c.loop-imp.invariant.1, cost_of_front (imp_cost c.args.index.now r) r.imps c.loop-imp.imp)

pub loop-imp-init : goal.loop-imp-init
loop-imp-init g c = (λ s is. c.in_ok-found.ensures.items, omega arith)
