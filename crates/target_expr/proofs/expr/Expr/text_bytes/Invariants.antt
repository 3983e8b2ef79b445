use Rattle.std.proofs.Common.{◌≡◌, take}
use Rattle.target_expr.specs.Pairs.{text_bytes_of}
use Rattle.target_expr.proofs.expr.Expr.text_bytes.Given as goal

abbrev pub invariant-loop-conjunction : goal.invariant-loop-conjunction
invariant-loop-conjunction l = l.all ≡ text_bytes_of (take l.conjunction-index l.conjunction-items)
