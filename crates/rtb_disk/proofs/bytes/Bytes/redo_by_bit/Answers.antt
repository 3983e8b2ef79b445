use Rattle.std.proofs.Common.{rules}
use Rattle.rtb_disk.proofs.bytes.Bytes.redo_by_bit.Goals as goal

pub returns-clause-bytes : goal.returns-clause-bytes
returns-clause-bytes c = search rules
