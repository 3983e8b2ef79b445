use Rattle.std.proofs.Common.{◌≡◌, take}
use Rattle.std.specs.List.{flat_map}
use Rattle.cnf_match.specs.Content.{AreKept, negated_of}
use Rattle.cnf_match.proofs.build.all_negated.Given as goal

abbrev pub invariant-loop-expr : goal.invariant-loop-expr
invariant-loop-expr l = record {
  negated : l.all ≡ flat_map negated_of (take l.expr-index l.exprs);
  kept : AreKept (take l.expr-index l.exprs);
}
