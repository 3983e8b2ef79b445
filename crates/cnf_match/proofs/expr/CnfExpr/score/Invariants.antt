use Rattle.std.proofs.Common.{◌≡◌, take}
use Rattle.cnf_match.specs.Conjunctive.{score_of}
use Rattle.cnf_match.proofs.expr.CnfExpr.score.Given as goal

abbrev pub invariant-loop-weight : goal.invariant-loop-weight
invariant-loop-weight l = l.score ≡ score_of l.assignment (take l.weight-index l.weight-items)
