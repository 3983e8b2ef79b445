use Rattle.std.proofs.Common.{◌+◌, ◌++◌, ◌∙◌, ap, append-nil, drop, filter, sum_by, sym, arith}
use Rattle.index_versions.specs.Touched.{conjunctions_of, is_true_at}
use Rattle.index_versions.proofs.Among.{cost_step, cost_within, passed_end, passed_step}
use Rattle.index_versions.proofs.touched.true_among.Goals as goal

pub loop-number-init : goal.loop-number-init
loop-number-init g c = record {
  numbers = ap (λ l. l ++ filter (is_true_at c.args.assignment.now c.args.table.now.campaigns) c.args.touched.now) c.new-numbers.ensures.items;
  cost = omega arith;
}

pub loop-number-preserved : goal.loop-number-preserved
loop-number-preserved g c =
    let touched = c.args.touched.now in
    let i = c.loop-number.number-index in
    let now = c.args.table.now.campaigns in
    record {
      numbers = passed_step (is_true_at c.args.assignment.now now) touched c.loop-number.numbers.items c.push_true.new.numbers.items i c.loop-number-test.true c.in_ok-push_true.ensures.numbers c.loop-number.invariant.numbers;
      cost = cost_step (conjunctions_of now) touched i c.loop-number.steps c.push_true.new.steps (c.args.steps.now + sum_by (conjunctions_of now) touched) c.loop-number-test.true c.push_true.ensures.cost c.loop-number.invariant.cost;
    }

pub returns-in_err-push_true-clause-cost : goal.returns-in_err-push_true-clause-cost
returns-in_err-push_true-clause-cost g c =
    let touched = c.args.touched.now in
    let now = c.args.table.now.campaigns in
    let i = c.loop-number.number-index in
    cost_within c.push_true.new.steps (sum_by (conjunctions_of now) (drop (i + 1) touched)) (c.args.steps.now + sum_by (conjunctions_of now) touched)
    (cost_step (conjunctions_of now) touched i c.loop-number.steps c.push_true.new.steps (c.args.steps.now + sum_by (conjunctions_of now) touched) c.loop-number-test.true c.push_true.ensures.cost c.loop-number.invariant.cost)

pub returns-clause-numbers : goal.returns-clause-numbers
returns-clause-numbers g c =
    let touched = c.args.touched.now in
    let f = is_true_at c.args.assignment.now c.args.table.now.campaigns in
    c.from_vec.ensures ∙ sym (append-nil c.loop-number.numbers.items)
    ∙ passed_end f touched c.loop-number.numbers.items (filter f touched) c.loop-number.number-index c.loop-number-test.false c.loop-number.invariant.numbers

pub returns-clause-cost : goal.returns-clause-cost
returns-clause-cost g c = cost_within c.loop-number.steps (sum_by (conjunctions_of c.args.table.now.campaigns) (drop c.loop-number.number-index c.args.touched.now)) (c.args.steps.now + sum_by (conjunctions_of c.args.table.now.campaigns) c.args.touched.now) c.loop-number.invariant.cost
