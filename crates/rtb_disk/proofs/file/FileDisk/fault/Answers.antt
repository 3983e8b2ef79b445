use Rattle.std.proofs.Common.{rules}
use Rattle.rtb_disk.proofs.file.FileDisk.fault.Goals as goal

pub returns-clause-counted : goal.returns-clause-counted
returns-clause-counted c = search rules
