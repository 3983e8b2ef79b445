use Rattle.std.proofs.Common.{◌≡◌, map, take}
use Rattle.top_match.specs.Certificate.{reason}
use Rattle.top_match.proofs.marking.reasons.Given as goal

abbrev pub invariant-loop-expr : goal.invariant-loop-expr
invariant-loop-expr l = l.marks ≡ map (reason l.assignment) (take l.expr-index l.exprs)
