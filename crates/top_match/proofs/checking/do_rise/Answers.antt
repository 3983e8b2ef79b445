use Rattle.std.proofs.Common.{sym, ◌∙◌}
use Rattle.target_expr.proofs.ByteOrder.{rise_end}
use Rattle.top_match.specs.Top.{is_before}
use Rattle.top_match.proofs.Turns.{rise_turn}
use Rattle.top_match.proofs.checking.do_rise.Goals as goal

pub loop-i-preserved : goal.loop-i-preserved
loop-i-preserved c = rise_turn c.args.chosen.now c.loop-i.i _ c.is_before.result c.loop-i.auto.i c.loop-i-test.true c.is_before.ensures c.if-not-is_before.false c.loop-i.invariant

pub returns : goal.returns
returns c = sym (rise_end is_before c.args.chosen.now c.loop-i.i c.loop-i.auto.i c.loop-i-test.false) ∙ c.loop-i.invariant
