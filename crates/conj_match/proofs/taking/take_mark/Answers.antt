use Rattle.std.proofs.Common.{arith}
use Rattle.conj_match.proofs.Marks.{blank_beyond, hit_beyond}
use Rattle.conj_match.proofs.taking.take_mark.Goals as goal

pub returns-else-number-marks-clause-marks : goal.returns-else-number-marks-clause-marks
returns-else-number-marks-clause-marks c = λ i h. blank_beyond c.args.marks.now c.args.number i (omega (arith, c.if-number-marks.false)) h

pub returns-else-number-marks-clause-hits : goal.returns-else-number-marks-clause-hits
returns-else-number-marks-clause-hits c = hit_beyond c.args.hits.now c.args.number _ (omega (arith, c.if-number-marks.false, c.requires.len))
