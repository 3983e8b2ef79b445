use Rattle.std.proofs.Common.{sym, ◌∙◌, ap}
use Rattle.target_expr.specs.Kept.{first_of, conjunction_faults}
use Rattle.target_expr.specs.declared.fault.ExprFault.TheVariants.{NoConjunction, TooMany}
use Rattle.target_expr.proofs.Faults.{first_here, first_nowhere, no_faults, none_more}
use Rattle.target_expr.proofs.check.first_fault.Goals as goal

pub returns-then-is_some : goal.returns-then-is_some
returns-then-is_some c =
    let xs = c.args.raw.now in
    let item = c.index-raw-i.result in
    first_here _ conjunction_faults xs c.loop-i.i item c.conjunction_fault-fault.result
    (no_faults xs _ NoConjunction (TooMany 0 0) c.is_empty.ensures c.if-is_empty.false c.if-raw-gt-MOST_CONJUNCTIONS.false)
    c.loop-i-test.true c.loop-i.invariant
    (c.conjunction_fault-fault.ensures ∙ ap (λ p. first_of (conjunction_faults (c.loop-i.i, p))) (c.as_slice.ensures ∙ c.index-raw-i.is))
    (sym c.is_some.ensures ∙ c.if-is_some.true)

pub loop-i-preserved : goal.loop-i-preserved
loop-i-preserved c =
    let xs = c.args.raw.now in
    let item = c.index-raw-i.result in
    none_more conjunction_faults xs c.loop-i.i item c.conjunction_fault-fault.result
    c.loop-i-test.true c.loop-i.invariant
    (c.conjunction_fault-fault.ensures ∙ ap (λ p. first_of (conjunction_faults (c.loop-i.i, p))) (c.as_slice.ensures ∙ c.index-raw-i.is))
    (sym c.is_some.ensures ∙ c.if-is_some.false)

pub returns : goal.returns
returns c =
    first_nowhere _ conjunction_faults c.args.raw.now c.loop-i.i
    (no_faults c.args.raw.now _ NoConjunction (TooMany 0 0) c.is_empty.ensures c.if-is_empty.false c.if-raw-gt-MOST_CONJUNCTIONS.false) c.loop-i-test.false c.loop-i.invariant
