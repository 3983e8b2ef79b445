use Rattle.std.proofs.Common.{arith}
use Rattle.std.proofs.lemmas.Bool.Decides.{nat_tests}
use Rattle.trace.proofs.Reading.{mark_there}
use Rattle.trace.proofs.header.get_mark.Goals as goal

pub returns-then-starts_with : goal.returns-then-starts_with
returns-then-starts_with c = mark_there c.args.bytes.now c.args.place c.starts_with.result (grind (arith, nat_tests, c.if-place-bytes.false)) c.starts_with.ensures.value c.if-starts_with.true
