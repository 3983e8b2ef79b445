use Rattle.journal_file.specs.Readings.{faults_read}
use Rattle.rtb_base.proofs.Chains.{RisesOnlyWhere-last}
use Rattle.audit.proofs.run.read_journal.Goals as goal

pub returns-in-Ok-clause-cause : goal.returns-in-Ok-clause-cause
returns-in-Ok-clause-cause g c =
    RisesOnlyWhere-last _ (g.D.Disk.faults c.args.disk) (faults_read c.in-Ok.reading) (g.D.Disk.faults c.read_from.result.0) c.in-Ok.ensures.cause (c.read_from.ensures.cause c.in-Ok.ensures.intact)
