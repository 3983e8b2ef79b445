use Rattle.std.proofs.Common.{ap, subst, sym}
use Rattle.journal_file.specs.Compaction.{store_written}
use Rattle.journal_file.specs.Unfinished.{IsUnfinished}
use Rattle.rtb_disk.specs.Stores.{Always}
use Rattle.compaction.proofs.writing.fill.Goals as goal

pub returns-in-Ok-clause-fills : goal.returns-in-Ok-clause-fills
returns-in-Ok-clause-fills g c = λ adds. (c.in-Ok.ensures.holds adds, c.in-Ok.ensures.any_moment adds)

pub returns-in-Err-DiskFailed-clause-fills : goal.returns-in-Err-DiskFailed-clause-fills
returns-in-Err-DiskFailed-clause-fills g c = λ adds.
    subst (λ store. Always IsUnfinished (store_written c.args.file) store) (sym (ap g.D.Disk.store c.into_disk.ensures)) (c.in-Err-DiskFailed.ensures.any_moment adds)

pub returns-in-Err-Memory-clause-fills : goal.returns-in-Err-Memory-clause-fills
returns-in-Err-Memory-clause-fills g c = λ adds.
    subst (λ store. Always IsUnfinished (store_written c.args.file) store) (sym (ap g.D.Disk.store c.into_disk-in-Err-Memory.ensures)) (c.in-Err-Memory.ensures.any_moment adds)
