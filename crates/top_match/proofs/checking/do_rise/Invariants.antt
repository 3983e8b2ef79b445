use Rattle.std.proofs.Common.{◌≡◌, ◌-◌, drop}
use Rattle.target_expr.specs.Kept.{rise}
use Rattle.top_match.specs.Top.{is_before}
use Rattle.top_match.proofs.checking.do_rise.Given as goal

abbrev pub invariant-loop-i : goal.invariant-loop-i
invariant-loop-i l = rise is_before (drop (l.i - 1) l.chosen) ≡ rise is_before l.chosen
