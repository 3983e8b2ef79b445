use Rattle.std.proofs.Common.{rules}
use Rattle.rtb_num.proofs.calls.Calls.begin.Goals as goal

pub returns-clause-told : goal.returns-clause-told
returns-clause-told c = search rules
