use Rattle.std.proofs.Common.{◌≡◌, Err, subst, sym}
use Rattle.journal_file.specs.Readings.{faults_read}
use Rattle.journal_file.specs.declared.faults.JournalFault.TheVariants.{DiskFailed}
use Rattle.rtb_base.specs.Faults.{RisesOnlyWhere}
use Rattle.audit.proofs.run.read_from.Goals as goal

pub returns-clause-cause : goal.returns-clause-cause
returns-clause-cause g c = λ whole.
    subst (λ disk. RisesOnlyWhere (c.replay-read.result ≡ Err DiskFailed) (faults_read c.args.reading) (g.D.Disk.faults disk)) (sym c.into_disk.ensures) (c.replay-read.ensures.cause whole)
