use Rattle.std.proofs.Common.{◌∙◌, ap, arith}
use Rattle.std.proofs.lemmas.Option.{get_or_from_slice_get}
use Rattle.std.proofs.lemmas.Result.{IfOk-from_err}
use Rattle.assign.specs.Rows.{pairs_of}
use Rattle.auction_core.specs.Core.{listed}
use Rattle.conj_index.specs.Find.{find_cost, true_under}
use Rattle.live_index.specs.Reached.{live_expressions}
use Rattle.live_index.proofs.Reaching.{found_by_index}
use Rattle.live_index.proofs.reached.find_for_imp.Goals as goal

pub returns-clause-answer : goal.returns-clause-answer
returns-clause-answer g c = λ i at s is.
    let r = c.args.request.now in
    c.in_ok-numbers.ensures.answer (live_expressions (listed s)) is
    ∙ ap (λ a. true_under a (live_expressions (listed s))) (c.in_ok-assignment.ensures i ∙ ap (pairs_of r) (get_or_from_slice_get r.imps c.args.imp i i at))
    ∙ found_by_index s r i

pub returns-clause-cost : goal.returns-clause-cost
returns-clause-cost g c = λ i at.
    let r = c.args.request.now in
    let is = c.in_ok-assignment.ensures i ∙ ap (pairs_of r) (get_or_from_slice_get r.imps c.args.imp i i at) in
    omega (arith, c.in_ok-numbers.ensures.cost, ap (find_cost c.args.index.now) is)

pub returns-in_err-numbers-clause-cost : goal.returns-in_err-numbers-clause-cost
returns-in_err-numbers-clause-cost g c = λ i at.
    let r = c.args.request.now in
    let is = c.in_ok-assignment.ensures i ∙ ap (pairs_of r) (get_or_from_slice_get r.imps c.args.imp i i at) in
    omega (arith, c.in_err-numbers.ensures.cost, ap (find_cost c.args.index.now) is)

pub returns-in_err-assignment-clause-cost : goal.returns-in_err-assignment-clause-cost
returns-in_err-assignment-clause-cost g c = λ i at. omega arith

pub returns-in_err-assignment-clause-answer : goal.returns-in_err-assignment-clause-answer
returns-in_err-assignment-clause-answer g c = λ i at. IfOk-from_err c.from_residual.result _ c.from_residual.ensures.0

pub returns-in_err-numbers-clause-answer : goal.returns-in_err-numbers-clause-answer
returns-in_err-numbers-clause-answer g c = λ i at. IfOk-from_err c.from_residual-in_err-numbers.result _ c.from_residual-in_err-numbers.ensures.0
