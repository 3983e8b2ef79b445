use Rattle.std.proofs.Common.{◌+◌, ◌%◌, ◌∙◌, arith, slice_index}
use Rattle.conj_match.proofs.Strikes.{changed_at, changed_here, kept_beyond}
use Rattle.conj_match.proofs.marking.count_one.Goals as goal

pub returns-then-number-marks-clause-counts : goal.returns-then-number-marks-clause-counts
returns-then-number-marks-clause-counts c = λ i h.
    let marks = c.args.marks.now in
    changed_at marks c.args.number i ((slice_index marks c.args.number + 1) % 256) (omega (arith, c.if-number-marks.true)) ∙ changed_here marks c.args.number i (λ m. (m + 1) % 256)

pub returns-else-number-marks-clause-counts : goal.returns-else-number-marks-clause-counts
returns-else-number-marks-clause-counts c = λ i h. kept_beyond c.args.marks.now c.args.number i ((slice_index c.args.marks.now i + 1) % 256) (omega (arith, c.if-number-marks.false)) h
