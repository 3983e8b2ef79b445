use Rattle.std.proofs.Common.{◌≡◌, take, ◌∙◌, ap, arith, cond}
use Rattle.std.proofs.lemmas.List.{take_all}
use Rattle.std.proofs.lemmas.List.Sums.{sum_by_more_le}
use Rattle.cnf_match.specs.declared.weight.Weight.{Weight}
use Rattle.cnf_match.specs.Conjunctive.{are_kept_weights, is_weighed, score_of}
use Rattle.cnf_match.proofs.Keeping.{score_most}
use Rattle.cnf_match.proofs.expr.CnfExpr.score.Goals as goal

pub overflow_add-score : goal.overflow_add-score
overflow_add-score c =
    let a = c.args.assignment.now in
    let xs = c.weights-weight-items.result.now in
    let kept = ap are_kept_weights c.weights-weight-items.ensures.value ∙ c.weights-weight-items.ensures.kept in
    omega (
      arith,
      sum_by_more_le (λ (w : Weight). cond (is_weighed a w) w.weight 0) xs c.loop-weight.weight-index c.weight-item.result c.loop-weight-test.true,
      score_most a xs kept,
      ap (λ (w : Weight). cond (is_weighed a w) w.weight 0) c.weight-item.is,
      c.loop-weight.invariant,
      c.weighed-score.ensures,
    )

pub returns-clause-most : goal.returns-clause-most
returns-clause-most c =
    let a = c.args.assignment.now in
    let xs = c.weights-weight-items.result.now in
    let kept = ap are_kept_weights c.weights-weight-items.ensures.value ∙ c.weights-weight-items.ensures.kept in
    let all : take c.loop-weight.weight-index xs ≡ xs = take_all c.loop-weight.weight-index xs c.loop-weight-test.false in
    omega (arith, score_most a xs kept, ap (score_of a) all, c.loop-weight.invariant)
