use Rattle.std.proofs.Common.{◌≤◌, length, sym, ◌∙◌, arith}
use Rattle.target_expr.specs.Kept.{text_below}
use Rattle.target_expr.proofs.ByteOrder.{rise_end}
use Rattle.cnf_match.proofs.values.do_rise.Goals as goal

pub returns : goal.returns
returns c =
    let past : length c.args.texts.now ≤ c.loop-i.i = omega (arith, c.len-i-end.ensures, c.loop-i-test.false) in
    sym (rise_end text_below c.args.texts.now c.loop-i.i c.loop-i.auto.i past) ∙ c.loop-i.invariant
