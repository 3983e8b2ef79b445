use Rattle.std.proofs.Common.{◌∙◌, sym}
use Rattle.conj_match.proofs.Marks.{blank_at, hit_set, hit_unset}
use Rattle.conj_match.proofs.taking.take_at.Goals as goal

pub returns-then-is_hit-clause-marks : goal.returns-then-is_hit-clause-marks
returns-then-is_hit-clause-marks c = λ i h. blank_at c.args.marks.now c.args.number i c.requires.there

pub returns-else-is_hit-clause-marks : goal.returns-else-is_hit-clause-marks
returns-else-is_hit-clause-marks c = λ i h. blank_at c.args.marks.now c.args.number i c.requires.there

pub returns-then-is_hit-clause-hits : goal.returns-then-is_hit-clause-hits
returns-then-is_hit-clause-hits c = hit_set c.args.hits.now c.set_bit.new.bits c.args.number _ (sym c.is_hit.ensures ∙ c.if-is_hit.true) c.set_bit.ensures.set

pub returns-else-is_hit-clause-hits : goal.returns-else-is_hit-clause-hits
returns-else-is_hit-clause-hits c = hit_unset c.args.hits.now c.args.number _ (sym c.is_hit.ensures ∙ c.if-is_hit.false)
