use Rattle.std.proofs.Common.{◌≡◌, ◌+◌, ◌<◌, ◌++◌, sym, ◌∙◌, ap, arith, length, length-append, take, get_or}
use Rattle.std.specs.List.{enumerate_from, flat_map}
use Rattle.target_expr.specs.Pairs.{conjunction_pairs, pairs_of}
use Rattle.target_expr.proofs.Enumerated.{flat_map_enumerated, length_enumerated, taken_whole}
use Rattle.target_expr.proofs.expr.Expr.pairs.Goals as goal

pub returns-in_err-push_conjunction-clause-cost : goal.returns-in_err-push_conjunction-clause-cost
returns-in_err-push_conjunction-clause-cost g c =
    let xs = c.as_slice-conjunction-items.result.now in
    let item = c.conjunction-item.result in
    omega (
      arith,
      length_enumerated conjunction_pairs xs c.loop-n.n item c.loop-n-test.true,
      ap (λ x. length (conjunction_pairs (c.loop-n.n, x))) (c.as_slice.ensures ∙ c.conjunction-item.is),
      ap (λ e. length (flat_map conjunction_pairs (take c.loop-n.n (enumerate_from 0 e)))) c.as_slice-conjunction-items.ensures.value,
      ap (λ e. length (pairs_of e)) c.as_slice-conjunction-items.ensures.value,
      c.loop-n.invariant.steps,
      c.push_conjunction.ensures.cost,
    )

pub loop-n-preserved : goal.loop-n-preserved
loop-n-preserved g c =
    let e = c.args.self.now in
    let n = c.loop-n.n in
    let item = c.conjunction-item.result in
    let within : n < length e = omega (arith, ap length c.as_slice-conjunction-items.ensures.value, c.loop-n-test.true) in
    let same = c.as_slice.ensures ∙ c.conjunction-item.is ∙ ap (λ xs. get_or xs n item) c.as_slice-conjunction-items.ensures.value in
    let more : flat_map conjunction_pairs (take (n + 1) (enumerate_from 0 e)) ≡ flat_map conjunction_pairs (take n (enumerate_from 0 e)) ++ conjunction_pairs (n, c.as_slice.result.now) =
    flat_map_enumerated conjunction_pairs e n item within ∙ ap (λ x. flat_map conjunction_pairs (take n (enumerate_from 0 e)) ++ conjunction_pairs (n, x)) (sym same) in
    let value : c.push_conjunction.new.pairs ≡ flat_map conjunction_pairs (take (n + 1) (enumerate_from 0 e)) =
    c.in_ok-push_conjunction.ensures.value ∙ ap (λ ps. ps ++ conjunction_pairs (n, c.as_slice.result.now)) c.loop-n.invariant.value ∙ sym more in
    record {
      value = value;
      steps = omega (arith, c.in_ok-push_conjunction.ensures.steps, c.loop-n.invariant.steps, ap length more, length-append (flat_map conjunction_pairs (take n (enumerate_from 0 e))) (conjunction_pairs (n, c.as_slice.result.now)));
    }

pub returns-clause-value : goal.returns-clause-value
returns-clause-value g c =
    let e = c.args.self.now in
    c.loop-n.invariant.value ∙ ap (flat_map conjunction_pairs) (taken_whole e c.loop-n.n (omega (arith, ap length c.as_slice-conjunction-items.ensures.value, c.loop-n-test.false)))

pub returns-clause-steps : goal.returns-clause-steps
returns-clause-steps g c =
    let e = c.args.self.now in
    c.loop-n.invariant.steps ∙ ap (λ l. c.args.steps.now + length (flat_map conjunction_pairs l)) (taken_whole e c.loop-n.n (omega (arith, ap length c.as_slice-conjunction-items.ensures.value, c.loop-n-test.false)))

pub returns-clause-cost : goal.returns-clause-cost
returns-clause-cost g c = omega (arith, returns-clause-steps g c)
