use Rattle.std.proofs.Common.{◌≡◌, subst}
use Rattle.std.specs.Prelude.{Err}
use Rattle.compaction.specs.declared.fault.CompactionFault.TheVariants.{WriteFailed}
use Rattle.journal_file.specs.Compaction.{store_written}
use Rattle.plain_exchange.specs.Effects.{kept_effects}
use Rattle.rtb_base.specs.Faults.{RisesOnlyWhere}
use Rattle.compaction.proofs.Files.{as_answer, not_written, written}
use Rattle.compaction.proofs.writing.write_exchange.Goals as goal

pub begin_file-requires : goal.begin_file-requires
begin_file-requires g c = record { users = c.requires.writable.users }

pub returns-in-Ok-clause-writes : goal.returns-in-Ok-clause-writes
returns-in-Ok-clause-writes g c = λ told.
    let b = c.in-Ok.ensures.begins told in
    written c.args.core.now.state b.1.payloads (g.D.Disk.store c.args.disk) (store_written c.in-Ok.file) (g.D.Disk.store c.finish_file.result.0) c.requires.writable b.1.text b.0 b.2 c.finish_file.result.1 (c.finish_file.ensures.closes b.1.payloads b.1.adds)

pub returns-in-Ok-clause-cause : goal.returns-in-Ok-clause-cause
returns-in-Ok-clause-cause g c = subst (λ n. RisesOnlyWhere (c.finish_file.result.1 ≡ Err WriteFailed) n (g.D.Disk.faults c.finish_file.result.0)) c.in-Ok.ensures.cause c.finish_file.ensures.cause

pub returns-in-Err-clause-writes : goal.returns-in-Err-clause-writes
returns-in-Err-clause-writes g c = λ told.
    not_written g.D.Disk c.args.core.now.state (kept_effects c.args.core.now.state) (g.D.Disk.store c.args.disk) c.in-Err.disk c.in-Err.fault (c.in-Err.ensures.begins told)

pub returns-in-Err-clause-cause : goal.returns-in-Err-clause-cause
returns-in-Err-clause-cause g c = as_answer c.in-Err.fault (g.D.Disk.faults c.args.disk) (g.D.Disk.faults c.in-Err.disk) c.in-Err.ensures.cause
