use Rattle.std.proofs.Common.{◌≡◌, take, not, false}
use Rattle.std.specs.List.{list_any}
use Rattle.cnf_match.specs.Conjunctive.{clause_holds}
use Rattle.cnf_match.proofs.expr.CnfExpr.first_false.Given as goal

abbrev pub invariant-loop-place : goal.invariant-loop-place
invariant-loop-place l = list_any (λ c. not (clause_holds l.assignment c)) (take l.place l.self.clauses) ≡ false
