use Rattle.std.proofs.Common.{is_some, not, ◌∙◌, ap, sym}
use Rattle.std.proofs.Math.Bool.{not-not}
use Rattle.cnf_match.specs.Conjunctive.{clause_holds}
use Rattle.cnf_match.proofs.Lists.{all_where_none}
use Rattle.cnf_match.proofs.expr.CnfExpr.holds.Goals as goal

pub returns : goal.returns
returns c =
    sym (not-not c.is_none.result) ∙ ap not (sym c.is_none.ensures) ∙ ap (λ o. not (is_some o)) c.first_false.ensures
    ∙ sym (all_where_none (clause_holds c.args.assignment.now) c.args.self.now.clauses)
