use Rattle.std.proofs.Common.{◌≡◌, subst}
use Rattle.std.specs.Prelude.{MatchResult}
use Rattle.compaction.specs.declared.fault.CompactionFault.TheVariants.{WriteFailed}
use Rattle.journal_file.specs.Compaction.{faults_written, store_written}
use Rattle.plain_exchange.specs.Effects.{kept_effects}
use Rattle.rtb_base.specs.Faults.{RisesOnlyWhere}
use Rattle.compaction.proofs.Files.{begun}
use Rattle.compaction.proofs.writing.begin_file.Goals as goal

pub returns-in-Ok-clause-begins : goal.returns-in-Ok-clause-begins
returns-in-Ok-clause-begins g c = λ told.
    let h = c.in-Ok.ensures in
    let taken = h.accepted told in
    begun (kept_effects c.args.core.now.state) (g.D.Disk.store c.args.disk) (store_written c.in-Ok.file) c.fill.result taken (h.any_moment told taken) (c.fill.ensures.fills (h.begun told))

pub returns-in-Ok-clause-cause : goal.returns-in-Ok-clause-cause
returns-in-Ok-clause-cause g c =
    subst (λ n. MatchResult c.fill.result (λ f. faults_written f ≡ n) (λ e. RisesOnlyWhere (e.1 ≡ WriteFailed) n (g.D.Disk.faults e.0))) c.in-Ok.ensures.cause c.fill.ensures.cause

pub returns-in-Err-default-DiskFailed-clause-begins : goal.returns-in-Err-default-DiskFailed-clause-begins
returns-in-Err-default-DiskFailed-clause-begins g c = λ told. (c.in-Err-default-DiskFailed.ensures.others told, c.in-Err-default-DiskFailed.ensures.any_moment told)
