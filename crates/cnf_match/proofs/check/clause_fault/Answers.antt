use Rattle.std.proofs.Common.{sym, ◌∙◌, ap}
use Rattle.target_expr.proofs.Faults.{first_here, first_nowhere, none_more}
use Rattle.cnf_match.specs.Making.{first_of, pred_faults}
use Rattle.cnf_match.specs.declared.fault.CnfFault.TheVariants as fault
use Rattle.cnf_match.proofs.Faults.{some_but_few}
use Rattle.cnf_match.proofs.check.clause_fault.Goals as goal

pub returns-then-is_some : goal.returns-then-is_some
returns-then-is_some c =
    let xs = c.args.clause.now in
    first_here _ (pred_faults c.args.i) xs c.loop-j.j c.index-clause-j.result c.pred_fault-fault.result
    (some_but_few xs _ (fault.EmptyClause c.args.i) (fault.TooMany c.args.i 0) c.is_empty.ensures c.if-is_empty.false c.if-clause-gt-MOST_PREDICATES.false)
    c.loop-j-test.true c.loop-j.invariant
    (c.pred_fault-fault.ensures ∙ ap (λ p. first_of (pred_faults c.args.i (c.loop-j.j, p))) c.index-clause-j.is)
    (sym c.is_some.ensures ∙ c.if-is_some.true)

pub loop-j-preserved : goal.loop-j-preserved
loop-j-preserved c =
    none_more (pred_faults c.args.i) c.args.clause.now c.loop-j.j c.index-clause-j.result c.pred_fault-fault.result
    c.loop-j-test.true c.loop-j.invariant
    (c.pred_fault-fault.ensures ∙ ap (λ p. first_of (pred_faults c.args.i (c.loop-j.j, p))) c.index-clause-j.is)
    (sym c.is_some.ensures ∙ c.if-is_some.false)

pub returns : goal.returns
returns c =
    first_nowhere _ (pred_faults c.args.i) c.args.clause.now c.loop-j.j
    (some_but_few c.args.clause.now _ (fault.EmptyClause c.args.i) (fault.TooMany c.args.i 0) c.is_empty.ensures c.if-is_empty.false c.if-clause-gt-MOST_PREDICATES.false)
    c.loop-j-test.false c.loop-j.invariant
