use Rattle.std.proofs.Common.{ℕ, ◌++◌, List, sym, ◌∙◌, ap, subst, take}
use Rattle.std.specs.List.{enumerate_from, flat_map}
use Rattle.target_expr.specs.declared.pred.Pred.{Pred}
use Rattle.target_expr.proofs.Enumerated.{flat_map_enumerated, taken_whole}
use Rattle.cnf_match.specs.Growing.{Enters, clause_pairs}
use Rattle.cnf_match.proofs.Entering.{enters_then}
use Rattle.cnf_match.proofs.build.enter_expression.Goals as goal

pub loop-i-preserved : goal.loop-i-preserved
loop-i-preserved c =
    let pairs = clause_pairs c.args.n in
    let cs = c.args.clauses.now in
    let i = c.loop-i.i in
    let item = c.index-clauses-i.result in
    let front = flat_map pairs (take i (enumerate_from 0 cs)) in
    enters_then front (pairs (i, c.as_slice.result.now)) _ c.args.growing.now c.loop-i.growing c.enter_clause.new.growing
    (flat_map_enumerated pairs cs i item c.loop-i-test.true ∙ ap (λ x. front ++ pairs (i, x)) (sym (c.as_slice.ensures ∙ c.index-clauses-i.is)))
    c.loop-i.invariant c.in_ok-enter_clause.ensures

pub returns : goal.returns
returns c =
    let cs = c.args.clauses.now in
    subst (λ (l : List (ℕ × List Pred)). Enters (flat_map (clause_pairs c.args.n) l) c.args.growing.now c.loop-i.growing) (taken_whole cs c.loop-i.i c.loop-i-test.false) c.loop-i.invariant
