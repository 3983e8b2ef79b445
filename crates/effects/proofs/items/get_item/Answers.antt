use Rattle.effects.proofs.PartCodes.{item_none, item_read}
use Rattle.effects.proofs.items.get_item.Goals as goal

pub returns-in_err-triple : goal.returns-in_err-triple
returns-in_err-triple c = rw c.from_residual.ensures (item_none c.args.bytes.now c.args.place c.in_err-triple.ensures)

pub returns : goal.returns
returns c = rw c.item_from.ensures (item_read c.args.bytes.now c.args.place c.in_ok-triple.triple c.in_ok-triple.next c.in_ok-triple.ensures)
