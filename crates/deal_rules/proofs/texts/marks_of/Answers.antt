use Rattle.std.proofs.Common.{inr}
use Rattle.deal_rules.proofs.Marking.{all_marked}
use Rattle.deal_rules.proofs.texts.marks_of.Goals as goal

pub returns : goal.returns
returns c = inr (all_marked c.args.texts.now c.in_ok-marks.marks.items c.marked.result.items c.in_ok-marks.ensures c.marked.ensures)
