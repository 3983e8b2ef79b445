use Rattle.std.proofs.Common.{◌≡◌, take}
use Rattle.target_expr.specs.Kept.{keep_in}
use Rattle.target_expr.proofs.make.keep_in.Given as goal

abbrev pub invariant-loop-attr : goal.invariant-loop-attr
invariant-loop-attr l = l.preds ≡ keep_in l.conjunction (take l.attr-index l.attrs)
