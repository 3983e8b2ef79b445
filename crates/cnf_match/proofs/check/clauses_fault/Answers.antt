use Rattle.std.proofs.Common.{sym, ◌∙◌, ap}
use Rattle.target_expr.proofs.Faults.{first_here, first_nowhere, none_more}
use Rattle.cnf_match.specs.Making.{clause_faults, first_of}
use Rattle.cnf_match.specs.declared.fault.CnfFault.TheVariants as fault
use Rattle.cnf_match.proofs.Faults.{few}
use Rattle.cnf_match.proofs.check.clauses_fault.Goals as goal

pub returns-then-is_some : goal.returns-then-is_some
returns-then-is_some c =
    first_here _ clause_faults c.args.raw.now c.loop-i.i c.index-raw-i.result c.clause_fault-fault.result
    (few c.args.raw.now (fault.TooMany 0 0) c.if-raw-gt-MOST_CLAUSES.false)
    c.loop-i-test.true c.loop-i.invariant
    (c.clause_fault-fault.ensures ∙ ap (λ p. first_of (clause_faults (c.loop-i.i, p))) (c.as_slice.ensures ∙ c.index-raw-i.is))
    (sym c.is_some.ensures ∙ c.if-is_some.true)

pub loop-i-preserved : goal.loop-i-preserved
loop-i-preserved c =
    none_more clause_faults c.args.raw.now c.loop-i.i c.index-raw-i.result c.clause_fault-fault.result
    c.loop-i-test.true c.loop-i.invariant
    (c.clause_fault-fault.ensures ∙ ap (λ p. first_of (clause_faults (c.loop-i.i, p))) (c.as_slice.ensures ∙ c.index-raw-i.is))
    (sym c.is_some.ensures ∙ c.if-is_some.false)

pub returns : goal.returns
returns c = first_nowhere _ clause_faults c.args.raw.now c.loop-i.i (few c.args.raw.now (fault.TooMany 0 0) c.if-raw-gt-MOST_CLAUSES.false) c.loop-i-test.false c.loop-i.invariant
