use Rattle.std.proofs.Common.{◌≡◌, ◌+◌, ℕ, List, ◌++◌, ◌∙◌, ap, arith, get_or, length, map, refl, subst, sym, take}
use Rattle.std.proofs.lemmas.List.{take_all}
use Rattle.std.proofs.lemmas.Result.{IfOk-from_err}
use Rattle.target_expr.specs.declared.pred.Pred.{Pred}
use Rattle.target_expr.specs.declared.pred.Pair.{Pair}
use Rattle.target_expr.specs.Pairs.{pairs_of}
use Rattle.conj_index.specs.Campaigns.{Campaigns, conjunctions_in, expression_of}
use Rattle.conj_index.specs.Growing.{AreGrown, shift}
use Rattle.conj_index.proofs.Campaigns.{conjunctions_next, conjunctions_up, pairs_fit, pairs_more, pairs_next, pairs_up}
use Rattle.conj_index.proofs.build.enter_all.Goals as goal

pub returns-in_err-pairs-clause-cost : goal.returns-in_err-pairs-clause-cost
returns-in_err-pairs-clause-cost g c =
    let same : length (pairs_of c.expr-expr.result.now) ≡ length (pairs_of (get_or c.args.added.now c.loop-campaign.campaign-index c.campaign-item.result).1) =
    ap (λ e. length (pairs_of e)) c.expr-expr.ensures ∙ ap (λ (q : ℕ × List (List Pred)). length (pairs_of q.1)) c.campaign-item.is in
    omega (arith, same, pairs_up c.args.added.now c.loop-campaign.campaign-index c.campaign-item.result c.loop-campaign-test.true, c.pairs.ensures.cost, c.loop-campaign.invariant.cost)

pub enter_pairs-requires : goal.enter_pairs-requires
enter_pairs-requires g c =
    let within = c.requires.within in
    pairs_fit c.args.added.now c.loop-campaign.campaign-index c.campaign-item.result (length c.loop-campaign.parts.items) c.loop-campaign.first c.into_vec.result.items
    c.loop-campaign-test.true c.campaign-item.is (omega (arith, within, c.loop-campaign.invariant.count)) c.requires.few c.loop-campaign.invariant.first (c.into_vec.ensures ∙ c.in_ok-pairs.ensures.value ∙ ap pairs_of c.expr-expr.ensures)

pub returns-in_err-enter_pairs-clause-cost : goal.returns-in_err-enter_pairs-clause-cost
returns-in_err-enter_pairs-clause-cost g c =
    let same : length (pairs_of c.expr-expr.result.now) ≡ length (pairs_of (get_or c.args.added.now c.loop-campaign.campaign-index c.campaign-item.result).1) =
    ap (λ e. length (pairs_of e)) c.expr-expr.ensures ∙ ap (λ (q : ℕ × List (List Pred)). length (pairs_of q.1)) c.campaign-item.is in
    omega (arith, same, pairs_up c.args.added.now c.loop-campaign.campaign-index c.campaign-item.result c.loop-campaign-test.true, c.pairs.ensures.cost, c.loop-campaign.invariant.cost)

pub overflow_add-first : goal.overflow_add-first
overflow_add-first g c =
    let same : length c.expr-expr.result.now ≡ length (get_or c.args.added.now c.loop-campaign.campaign-index c.campaign-item.result).1 =
    ap length c.expr-expr.ensures ∙ ap (λ (q : ℕ × List (List Pred)). length q.1) c.campaign-item.is in
    omega (arith, same, conjunctions_up c.args.added.now c.loop-campaign.campaign-index c.campaign-item.result c.loop-campaign-test.true, c.conjunctions.ensures.value, c.loop-campaign.invariant.first, c.requires.few)

pub loop-campaign-preserved : goal.loop-campaign-preserved
loop-campaign-preserved g c =
    let i : ℕ = c.loop-campaign.campaign-index in
    let more : length (pairs_of c.expr-expr.result.now) ≡ length (pairs_of (get_or c.args.added.now i c.campaign-item.result).1) =
    ap (λ e. length (pairs_of e)) c.expr-expr.ensures ∙ ap (λ (q : ℕ × List (List Pred)). length (pairs_of q.1)) c.campaign-item.is in
    let many : length c.expr-expr.result.now ≡ length (get_or c.args.added.now i c.campaign-item.result).1 =
    ap length c.expr-expr.ensures ∙ ap (λ (q : ℕ × List (List Pred)). length q.1) c.campaign-item.is in
    let before : List Pair = pairs_of (expression_of (take i c.args.added.now)) in
    let next : before ++ map (shift c.loop-campaign.first) c.into_vec.result.items ≡ pairs_of (expression_of (take (i + 1) c.args.added.now)) =
    ap (λ n. before ++ map (shift n) c.into_vec.result.items) c.loop-campaign.invariant.first
    ∙ ap (λ l. before ++ map (shift (conjunctions_in (take i c.args.added.now))) l)
    (c.into_vec.ensures ∙ c.in_ok-pairs.ensures.value ∙ ap pairs_of c.expr-expr.ensures ∙ ap (λ (q : ℕ × List (List Pred)). pairs_of q.1) c.campaign-item.is)
    ∙ sym (pairs_more c.args.added.now i c.campaign-item.result c.loop-campaign-test.true) in
    let P : List Pair → Type 0 = λ ps. AreGrown ps c.enter_pairs.new.parts.items in
    record {
      grown = subst P next (c.in_ok-enter_pairs.ensures.grown before c.loop-campaign.invariant.grown);
      count = c.enter_pairs.ensures.count ∙ c.loop-campaign.invariant.count;
      first = omega (arith, many, conjunctions_next c.args.added.now i c.campaign-item.result c.loop-campaign-test.true, c.conjunctions.ensures.value, c.loop-campaign.invariant.first);
      cost = omega (arith, more, pairs_next c.args.added.now i c.campaign-item.result c.loop-campaign-test.true, c.pairs.ensures.cost, c.loop-campaign.invariant.cost);
    }

pub returns-clause-grown : goal.returns-clause-grown
returns-clause-grown g c =
    let P : Campaigns → Type 0 = λ l. AreGrown (pairs_of (expression_of l)) c.loop-campaign.parts.items in
    subst P (take_all c.loop-campaign.campaign-index c.args.added.now c.loop-campaign-test.false) c.loop-campaign.invariant.grown

pub loop-campaign-init : goal.loop-campaign-init
loop-campaign-init g c = record { grown = c.requires.empty; count = refl; first = refl; cost = omega arith }

pub overflow_cast-first : goal.overflow_cast-first
overflow_cast-first g c =
    let same : length c.expr-expr.result.now ≡ length (get_or c.args.added.now c.loop-campaign.campaign-index c.campaign-item.result).1 =
    ap length c.expr-expr.ensures ∙ ap (λ (q : ℕ × List (List Pred)). length q.1) c.campaign-item.is in
    omega (arith, same, conjunctions_up c.args.added.now c.loop-campaign.campaign-index c.campaign-item.result c.loop-campaign-test.true, c.conjunctions.ensures.value, c.requires.few)

pub returns-clause-cost : goal.returns-clause-cost
returns-clause-cost g c =
    omega (arith, ap (λ (l : Campaigns). length (pairs_of (expression_of l))) (take_all c.loop-campaign.campaign-index c.args.added.now c.loop-campaign-test.false), c.loop-campaign.invariant.cost)

pub returns-in_err-pairs-clause-grown : goal.returns-in_err-pairs-clause-grown
returns-in_err-pairs-clause-grown g c = IfOk-from_err c.from_residual.result _ c.from_residual.ensures.0

pub returns-in_err-enter_pairs-clause-grown : goal.returns-in_err-enter_pairs-clause-grown
returns-in_err-enter_pairs-clause-grown g c = IfOk-from_err c.from_residual-in_err-enter_pairs.result _ c.from_residual-in_err-enter_pairs.ensures.0
