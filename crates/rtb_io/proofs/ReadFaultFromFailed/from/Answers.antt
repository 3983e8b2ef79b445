use Rattle.std.proofs.Common.{rules}
use Rattle.rtb_io.proofs.ReadFaultFromFailed.from.Goals as goal

pub returns : goal.returns
returns c = search rules
