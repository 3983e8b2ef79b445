use Rattle.std.proofs.Common.{◌≡◌, subst}
use Rattle.std.specs.Prelude.{Err}
use Rattle.journal_file.specs.declared.faults.JournalFault.TheVariants as journal
use Rattle.rtb_base.specs.Faults.{RisesOnlyWhere}
use Rattle.compaction.proofs.journals.read_exchange.Goals as goal

pub returns-in-Ok-clause-cause : goal.returns-in-Ok-clause-cause
returns-in-Ok-clause-cause g c =
    subst (λ n. RisesOnlyWhere (c.read_from.result.1 ≡ Err journal.DiskFailed) n (g.D.Disk.faults c.read_from.result.0)) c.in-Ok.ensures.cause (c.read_from.ensures.cause c.in-Ok.ensures.intact)
