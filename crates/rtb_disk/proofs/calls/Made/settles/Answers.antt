use Rattle.std.proofs.Common.{rules}
use Rattle.rtb_disk.proofs.calls.Made.settles.Goals as goal

pub returns-in-Sync : goal.returns-in-Sync
returns-in-Sync c = search rules
