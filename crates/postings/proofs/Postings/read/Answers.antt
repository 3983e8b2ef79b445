use Rattle.std.proofs.Common.{ap, arith, length}
use Rattle.postings.proofs.Unpacked.{unpacked_length}
use Rattle.postings.proofs.Postings.read.Goals as goal

pub returns-clause-read : goal.returns-clause-read
returns-clause-read g c = omega (arith, c.count.ensures, c.len.ensures, unpacked_length c.self.inside.ids.items c.self.inside.marks.items, ap length c.self.view_is)
