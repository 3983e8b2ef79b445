use Rattle.std.proofs.Common.{ℕ, ◌++◌, List, sym, ◌∙◌, ap, subst, take}
use Rattle.std.specs.List.{enumerate_from, flat_map}
use Rattle.target_expr.proofs.Enumerated.{flat_map_enumerated, taken_whole}
use Rattle.cnf_match.specs.Conjunctive.{Cnf}
use Rattle.cnf_match.specs.Growing.{Enters, clauses_pairs, expression_pairs}
use Rattle.cnf_match.proofs.Entering.{enters_then}
use Rattle.cnf_match.proofs.build.enter_all.Goals as goal

pub loop-n-preserved : goal.loop-n-preserved
loop-n-preserved c =
    let es = c.args.exprs.now in
    let n = c.loop-n.n in
    let item = c.index-exprs-n.result in
    let front = flat_map expression_pairs (take n (enumerate_from 0 es)) in
    enters_then front (clauses_pairs n c.clauses.result.now) _ c.args.growing.now c.loop-n.growing c.enter_expression.new.growing
    (flat_map_enumerated expression_pairs es n item c.loop-n-test.true
    ∙ ap (λ (e : Cnf). front ++ expression_pairs (n, e)) (sym c.index-exprs-n.is)
    ∙ ap (λ cs. front ++ clauses_pairs n cs) (sym c.clauses.ensures.value))
    c.loop-n.invariant c.in_ok-enter_expression.ensures

pub returns : goal.returns
returns c =
    let es = c.args.exprs.now in
    subst (λ (l : List (ℕ × Cnf)). Enters (flat_map expression_pairs l) c.args.growing.now c.loop-n.growing) (taken_whole es c.loop-n.n c.loop-n-test.false) c.loop-n.invariant
