use Rattle.effects.proofs.PartCodes.{tag_no_byte}
use Rattle.effects.proofs.tag.get_tag.Goals as goal

pub returns-in_err-n : goal.returns-in_err-n
returns-in_err-n c = rw c.from_residual.ensures (tag_no_byte c.args.bytes.now c.args.place c.in_err-n.ensures)
