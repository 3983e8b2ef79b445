use Rattle.std.proofs.Common.{ap, subst, sym}
use Rattle.journal_file.specs.Compaction.{store_written}
use Rattle.journal_file.specs.Unfinished.{IsUnfinished}
use Rattle.rtb_disk.specs.Stores.{Always}
use Rattle.compaction.proofs.Gathered.{begun_stays}
use Rattle.compaction.proofs.writing.finish_file.Goals as goal

pub returns-in-Err-clause-closes : goal.returns-in-Err-clause-closes
returns-in-Err-clause-closes g c = λ payloads adds.
    subst (λ store. Always IsUnfinished (store_written c.args.file) store) (sym (ap g.D.Disk.store c.into_disk.ensures)) (begun_stays c.args.file payloads adds)
