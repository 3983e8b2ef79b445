use Rattle.std.proofs.Common.{◌≡◌, ◌+◌, ◌%◌, ◌∙◌, ap, arith, set, slice_index}
use Rattle.conj_match.proofs.Strikes.{changed_at, changed_here, kept_beyond}
use Rattle.conj_match.proofs.marking.strike.Goals as goal

pub returns-then-number-marks-clause-struck : goal.returns-then-number-marks-clause-struck
returns-then-number-marks-clause-struck c = λ i h.
    let marks = c.args.marks.now in
    let m = slice_index marks c.args.number in
    let same : ((m + 127) % 256) % 128 ≡ (m + 127) % 128 = omega arith in
    ap (λ v. slice_index (set marks c.args.number v) i) same
    ∙ changed_at marks c.args.number i ((m + 127) % 128) (omega (arith, c.if-number-marks.true)) ∙ changed_here marks c.args.number i (λ m. (m + 127) % 128)

pub returns-else-number-marks-clause-struck : goal.returns-else-number-marks-clause-struck
returns-else-number-marks-clause-struck c = λ i h. kept_beyond c.args.marks.now c.args.number i ((slice_index c.args.marks.now i + 127) % 128) (omega (arith, c.if-number-marks.false)) h
