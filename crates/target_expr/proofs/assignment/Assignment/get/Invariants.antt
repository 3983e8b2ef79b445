use Rattle.std.proofs.Common.{◌≡◌, ℕ, List, take, find, None}
use Rattle.target_expr.specs.declared.attr.Attr.{Attr}
use Rattle.target_expr.specs.Truth.{same_attr}
use Rattle.target_expr.proofs.assignment.Assignment.get.Given as goal

abbrev pub invariant-loop-pair : goal.invariant-loop-pair
invariant-loop-pair l = find (λ (p : Attr × List ℕ). same_attr p.0 l.a) (take l.pair-index l.pair-items) ≡ None
