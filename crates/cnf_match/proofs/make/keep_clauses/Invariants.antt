use Rattle.std.proofs.Common.{◌≡◌, map}
use Rattle.cnf_match.specs.Making.{keep_clause}
use Rattle.cnf_match.proofs.make.keep_clauses.Given as goal

abbrev pub invariant-loop-clause : goal.invariant-loop-clause
invariant-loop-clause l = l.all.items ≡ map keep_clause l.yielded
