use Rattle.std.proofs.Common.{rules}
use Rattle.rtb_num.proofs.real.settle.Goals as goal

pub returns-in_default-clause-counted : goal.returns-in_default-clause-counted
returns-in_default-clause-counted c = search rules
