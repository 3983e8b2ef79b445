use Rattle.effects.specs.declared.tag.Tag.{Tag}
use Rattle.effects.proofs.Bodied.{no_body}
use Rattle.effects.proofs.changes.get_forgot.Goals as goal

pub returns-in_err-n : goal.returns-in_err-n
returns-in_err-n c = rw c.from_residual.ensures (no_body Tag.Forgot c.args.bytes.now c.args.place c.in_err-n.ensures)
