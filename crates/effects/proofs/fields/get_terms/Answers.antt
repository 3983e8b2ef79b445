use Rattle.std.proofs.Common.{Some, None}
use Rattle.effects.proofs.PartCodes.{terms_none, terms_read}
use Rattle.effects.proofs.fields.get_terms.Goals as goal

pub returns-in_err-numbers : goal.returns-in_err-numbers
returns-in_err-numbers c = rw c.from_residual.ensures (terms_none c.args.bytes.now c.args.place c.in_err-numbers.ensures)

pub returns-in_err-cap : goal.returns-in_err-cap
returns-in_err-cap c = rw c.from_residual-in_err-cap.ensures (terms_read c.args.bytes.now c.args.place c.in_ok-numbers.numbers c.in_ok-numbers.next None c.in_ok-numbers.ensures c.in_err-cap.ensures)

pub returns : goal.returns
returns c = terms_read c.args.bytes.now c.args.place c.in_ok-numbers.numbers c.in_ok-numbers.next (Some c.in_ok-cap.cap) c.in_ok-numbers.ensures c.in_ok-cap.ensures
