use Rattle.std.proofs.Common.{◌≡◌, ◌-◌, drop}
use Rattle.target_expr.specs.Kept.{rise, text_below}
use Rattle.cnf_match.proofs.values.do_rise.Given as goal

abbrev pub invariant-loop-i : goal.invariant-loop-i
invariant-loop-i l = rise text_below (drop (l.i - 1) l.texts) ≡ rise text_below l.texts
