use Rattle.std.proofs.Common.{ap, arith, length}
use Rattle.postings.proofs.Unpacked.{unpacked_length}
use Rattle.postings.proofs.Postings.len.Goals as goal

pub returns-clause-value : goal.returns-clause-value
returns-clause-value c = omega (arith, c.len.ensures, unpacked_length c.self.inside.ids.items c.self.inside.marks.items, ap length c.self.view_is)
