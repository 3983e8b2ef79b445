use Rattle.compaction.specs.Beside.{faults_beside}
use Rattle.compaction.specs.declared.fault.CompactionFault.TheVariants.{NotRead, WriteFailed}
use Rattle.journal_file.specs.declared.faults.JournalFault.TheVariants as journal
use Rattle.run_commands.proofs.Following.{breaks, goes_on, rises_by_fault, turned, waits_none}
use Rattle.run_commands.proofs.beside_command.follow_once.Goals as goal

pub returns-in-Ok-clause-turned : goal.returns-in-Ok-clause-turned
returns-in-Ok-clause-turned g c = λ keep first into started.
    let f = c.in-Ok.ensures in
    let next = goes_on keep first c.args.from.now into c.args.beside.now c.follow.new.from c.follow.new.self started f.follows c.follow.ensures.unwritten (f.read_cause.2 (λ e. absurd (cc e))) (f.write_cause.2 (λ e. absurd (cc e))) in
    let h = c.disk_when_free.ensures in
    turned g.W.World c.args.path.now keep first into c.args.world.now c.disk_when_free.new.self c.follow.new.from c.follow.new.self c.disk_when_free.result h.disks h.doors h.keys h.asks h.cause next

pub returns-in-Err-clause-turned : goal.returns-in-Err-clause-turned
returns-in-Err-clause-turned g c = λ keep first into started.
    let f = c.in-Err.ensures in (
      waits_none g.W.World c.args.world.now,
      breaks keep first c.args.from.now into c.args.beside.now c.follow.new.from c.follow.new.self c.in-Err.fault started f.follows c.follow.ensures.unwritten
          (rises_by_fault c.in-Err.fault (NotRead journal.DiskFailed) (g.W.Disk.Disk.faults c.args.from.now) (g.W.Disk.Disk.faults c.follow.new.from) f.read_cause)
          (rises_by_fault c.in-Err.fault WriteFailed (faults_beside c.args.beside.now) (faults_beside c.follow.new.self) f.write_cause),
    )
