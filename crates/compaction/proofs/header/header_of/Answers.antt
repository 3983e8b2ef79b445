use Rattle.compaction.proofs.Beginning.{begins_compacted}
use Rattle.compaction.proofs.header.header_of.Goals as goal

pub returns-then-eq-2 : goal.returns-then-eq-2
returns-then-eq-2 c = λ image is. begins_compacted c.args.head.now c.as_slice-2.result.now image c.if-head-ne1.false c.if-head-lt9.false c.if-eq-2.ensures c.as_slice-2.ensures is
