use Rattle.std.proofs.Common.{rules}
use Rattle.rtb_disk.proofs.log.Log.make.Goals as goal

pub returns-clause-ok : goal.returns-clause-ok
returns-clause-ok c = search rules
