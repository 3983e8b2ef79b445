use Rattle.effects.proofs.PartCodes.{gone_none, gone_read}
use Rattle.effects.proofs.fields.get_gone.Goals as goal

pub returns-in_err-counts : goal.returns-in_err-counts
returns-in_err-counts c = rw c.from_residual.ensures (gone_none c.args.bytes.now c.args.place c.in_err-counts.ensures)

pub returns : goal.returns
returns c = rw c.gone_from.ensures (gone_read c.args.bytes.now c.args.place c.in_ok-counts.counts c.in_ok-counts.next c.in_ok-counts.ensures)
