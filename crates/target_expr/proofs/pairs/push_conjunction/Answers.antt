use Rattle.std.proofs.Common.{ap, arith, length}
use Rattle.std.proofs.lemmas.List.Folds.{length-flat_map-take}
use Rattle.std.specs.List.{flat_map}
use Rattle.target_expr.specs.Pairs.{pred_pairs}
use Rattle.target_expr.proofs.pairs.push_conjunction.Goals as goal

pub returns-in_err-push_pred-clause-cost : goal.returns-in_err-push_pred-clause-cost
returns-in_err-push_pred-clause-cost g c =
    let f = pred_pairs c.args.n c.size-size.result in
    omega (
      arith,
      length-flat_map-take f c.args.conjunction.now c.loop-pred.pred-index c.pred-item.result c.loop-pred-test.true,
      ap (λ p. length (f p)) c.pred-item.is,
      ap (λ k. length (flat_map (pred_pairs c.args.n k) c.args.conjunction.now)) c.size-size.ensures,
      c.loop-pred.invariant.steps,
      c.push_pred.ensures.cost,
    )
