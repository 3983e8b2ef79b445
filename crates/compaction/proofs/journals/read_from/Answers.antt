use Rattle.std.proofs.Common.{◌≡◌, ap, subst, sym}
use Rattle.std.specs.Prelude.{Err}
use Rattle.journal_file.specs.Readings.{faults_read}
use Rattle.journal_file.specs.declared.faults.JournalFault.TheVariants as journal
use Rattle.rtb_base.specs.Faults.{RisesOnlyWhere}
use Rattle.compaction.proofs.journals.read_from.Goals as goal

pub returns-clause-cause : goal.returns-clause-cause
returns-clause-cause g c = λ well.
    subst (λ n. RisesOnlyWhere (c.replay-read.result ≡ Err journal.DiskFailed) (faults_read c.args.reading) n) (sym (ap g.D.Disk.faults c.into_disk.ensures)) (c.replay-read.ensures.cause well)
