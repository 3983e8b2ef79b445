use Rattle.std.proofs.Common.{subst, sym, ◌∙◌}
use Rattle.run_commands.specs.Recover.{Tells, read}
use Rattle.run_commands.proofs.Telling.{rises_by_code}
use Rattle.run_commands.proofs.recover_command.recover.Goals as goal

pub returns-in-Ok-clause-recovers : goal.returns-in-Ok-clause-recovers
returns-in-Ok-clause-recovers g c =
    let disk = c.in-Ok.disk in
    let back = c.tell_journal-disk.result.0 in
    let disks = g.W.Disk.Disk in
    read disk back c.in-Ok.ensures.asks c.in-Ok.ensures.disks c.in-Ok.ensures.cause c.with_disk.ensures.disk c.tell_journal-disk.ensures.unwritten
    (subst (λ code. Tells (disks.store disk) (disks.faults disk) (disks.faults back) (g.K.Sink.written c.args.sink.now) (g.K.Sink.written c.tell_journal-disk.new.sink) code)
    (sym c.with_disk.ensures.status) c.tell_journal-disk.ensures.tells)

pub returns-in-Ok-clause-cause : goal.returns-in-Ok-clause-cause
returns-in-Ok-clause-cause g c = rises_by_code c.tell_journal-disk.result.1 _ _ _ c.with_disk.ensures.status c.tell_journal-disk.ensures.cause

pub returns-in-Err-clause-cause : goal.returns-in-Err-clause-cause
returns-in-Err-clause-cause g c = rises_by_code c.end_with.result _ _ _ (c.without_world.ensures.status ∙ c.code.ensures) c.end_with.ensures.cause
