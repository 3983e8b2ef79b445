use Rattle.std.proofs.Common.{◌++◌, is_some, ◌∙◌, ap, sym}
use Rattle.target_expr.proofs.Faults.{first_kept, none_first}
use Rattle.cnf_match.specs.Making.{clauses_faults, first_of, weight_faults}
use Rattle.cnf_match.proofs.check.first_fault.Goals as goal

pub returns-then-is_some : goal.returns-then-is_some
returns-then-is_some c =
    c.clauses_fault-fault.ensures
    ∙ first_kept (clauses_faults c.args.raw.now) (weight_faults c.args.weights.now) (ap is_some (sym c.clauses_fault-fault.ensures) ∙ sym c.is_some.ensures ∙ c.if-is_some.true)

pub returns : goal.returns
returns c =
    let none = none_first (clauses_faults c.args.raw.now) (ap is_some (sym c.clauses_fault-fault.ensures) ∙ sym c.is_some.ensures ∙ c.if-is_some.false) in
    c.weights_fault.ensures ∙ ap (λ fs. first_of (fs ++ weight_faults c.args.weights.now)) (sym none)
