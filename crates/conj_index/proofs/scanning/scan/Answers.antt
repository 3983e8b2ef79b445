use Rattle.std.proofs.Common.{ℕ, ◌+◌, List, ◌∙◌, ap}
use Rattle.target_expr.specs.declared.pred.Pred.{Pred}
use Rattle.target_expr.specs.Truth.{tests_in}
use Rattle.conj_index.proofs.Asked.{asked_step, cost_step, cost_within}
use Rattle.conj_index.proofs.scanning.scan.Goals as goal

pub returns-in_err-push_if-clause-cost : goal.returns-in_err-push_if-clause-cost
returns-in_err-push_if-clause-cost g c =
    let i = c.loop-number.number-index in
    let looked = c.holds.ensures.steps ∙ ap (λ (p : ℕ × List (List Pred)). c.loop-number.steps + tests_in c.args.assignment.now p.1) c.loop-number-item.is in
    cost_within c.args.added.now (i + 1) _ _
    (cost_step c.args.assignment.now c.args.added.now i c.loop-number-item.result c.args.steps.now c.loop-number.steps c.holds.new.steps
    c.loop-number-test.true c.loop-number.invariant.cost looked)

pub loop-number-preserved : goal.loop-number-preserved
loop-number-preserved g c =
    let i = c.loop-number.number-index in
    let looked = c.holds.ensures.steps ∙ ap (λ (p : ℕ × List (List Pred)). c.loop-number.steps + tests_in c.args.assignment.now p.1) c.loop-number-item.is in
    record {
      found = asked_step c.args.assignment.now c.args.added.now i c.loop-number-item.result c.loop-number.numbers c.push_if.new.numbers c.holds.result
          c.loop-number-test.true c.loop-number-item.is c.loop-number.invariant.found c.in_ok-push_if.ensures c.holds.ensures.value;
      cost = cost_step c.args.assignment.now c.args.added.now i c.loop-number-item.result c.args.steps.now c.loop-number.steps c.holds.new.steps
          c.loop-number-test.true c.loop-number.invariant.cost looked;
    }
