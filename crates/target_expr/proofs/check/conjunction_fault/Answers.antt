use Rattle.std.proofs.Common.{sym, ◌∙◌, ap}
use Rattle.target_expr.specs.Kept.{first_of, pred_faults}
use Rattle.target_expr.specs.declared.fault.ExprFault.TheVariants.{TooMany}
use Rattle.target_expr.proofs.Faults.{first_here, first_nowhere, no_fault, none_more}
use Rattle.target_expr.proofs.check.conjunction_fault.Goals as goal

pub returns-then-is_some : goal.returns-then-is_some
returns-then-is_some c =
    let xs = c.args.conjunction.now in
    let item = c.index-conjunction-j.result in
    first_here _ (pred_faults c.args.i xs) xs c.loop-j.j item c.pred_fault-fault.result
    (no_fault _ _ (TooMany c.args.i 0) c.if-conjunction-gt-MOST_PREDICATES.false)
    c.loop-j-test.true c.loop-j.invariant
    (c.pred_fault-fault.ensures ∙ ap (λ p. first_of (pred_faults c.args.i xs (c.loop-j.j, p))) c.index-conjunction-j.is)
    (sym c.is_some.ensures ∙ c.if-is_some.true)

pub loop-j-preserved : goal.loop-j-preserved
loop-j-preserved c =
    let xs = c.args.conjunction.now in
    let item = c.index-conjunction-j.result in
    none_more (pred_faults c.args.i xs) xs c.loop-j.j item c.pred_fault-fault.result
    c.loop-j-test.true c.loop-j.invariant
    (c.pred_fault-fault.ensures ∙ ap (λ p. first_of (pred_faults c.args.i xs (c.loop-j.j, p))) c.index-conjunction-j.is)
    (sym c.is_some.ensures ∙ c.if-is_some.false)

pub returns : goal.returns
returns c =
    first_nowhere _ (pred_faults c.args.i c.args.conjunction.now) c.args.conjunction.now c.loop-j.j
    (no_fault _ _ (TooMany c.args.i 0) c.if-conjunction-gt-MOST_PREDICATES.false) c.loop-j-test.false c.loop-j.invariant
