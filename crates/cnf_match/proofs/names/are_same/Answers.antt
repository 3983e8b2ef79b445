use Rattle.cnf_match.proofs.Naming.{all_bytes}
use Rattle.cnf_match.proofs.names.are_same.Goals as goal

pub returns : goal.returns
returns c = all_bytes c.args.a.now c.args.b.now c.loop-i.i c.loop-i-test.false c.if-a-b.false c.loop-i.invariant
