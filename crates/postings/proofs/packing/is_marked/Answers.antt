use Rattle.postings.proofs.Marks.{bit_is}
use Rattle.postings.proofs.packing.is_marked.Goals as goal

pub returns : goal.returns
returns c = bit_is c.args.marks.now c.args.place
