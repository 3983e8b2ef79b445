use Rattle.std.proofs.Common.{◌<◌, ◌≡◌, take, get_or, length, not, true, false, sym, ◌∙◌, ap, arith}
use Rattle.cnf_match.specs.Conjunctive.{clause_holds}
use Rattle.std.specs.List.{list_any}
use Rattle.std.proofs.lemmas.List.{take_all}
use Rattle.cnf_match.proofs.Lists.{none_passes_more, placed_at, placed_nowhere}
use Rattle.cnf_match.proofs.expr.CnfExpr.first_false.Goals as goal

pub returns-then-not-clause_holds : goal.returns-then-not-clause_holds
returns-then-not-clause_holds c =
    let a = c.args.assignment.now in
    let xs = c.args.self.now.clauses in
    let i = c.loop-place.place in
    let item = c.clause-item.result in
    let within : i < length xs = omega (arith, ap length c.clauses-clause-items.ensures.value, c.loop-place-test.true) in
    let same = c.as_slice.ensures ∙ c.clause-item.is ∙ ap (λ l. get_or l i item) c.clauses-clause-items.ensures.value in
    let fails : clause_holds a (get_or xs i item) ≡ false = ap (clause_holds a) (sym same) ∙ sym c.clause_holds.ensures ∙ c.if-not-clause_holds.true in
    sym (placed_at (λ k. not (clause_holds a k)) xs i item within c.loop-place.invariant (ap not fails))

pub loop-place-preserved : goal.loop-place-preserved
loop-place-preserved c =
    let a = c.args.assignment.now in
    let xs = c.args.self.now.clauses in
    let i = c.loop-place.place in
    let item = c.clause-item.result in
    let within : i < length xs = omega (arith, ap length c.clauses-clause-items.ensures.value, c.loop-place-test.true) in
    let same = c.as_slice.ensures ∙ c.clause-item.is ∙ ap (λ l. get_or l i item) c.clauses-clause-items.ensures.value in
    let holds : clause_holds a (get_or xs i item) ≡ true = ap (clause_holds a) (sym same) ∙ sym c.clause_holds.ensures ∙ c.if-not-clause_holds.false in
    none_passes_more (λ k. not (clause_holds a k)) xs i item within c.loop-place.invariant (ap not holds)

pub returns : goal.returns
returns c =
    let a = c.args.assignment.now in
    let xs = c.args.self.now.clauses in
    let all : take c.loop-place.place xs ≡ xs = take_all c.loop-place.place xs (omega (arith, ap length c.clauses-clause-items.ensures.value, c.loop-place-test.false)) in
    sym (placed_nowhere (λ k. not (clause_holds a k)) xs (ap (list_any (λ k. not (clause_holds a k))) (sym all) ∙ c.loop-place.invariant))
