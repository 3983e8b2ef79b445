use Rattle.std.proofs.Common.{subst}
use Rattle.recovery.specs.Openings.{Recovers}
use Rattle.rtb_io.specs.Statuses.{code_of}
use Rattle.run_commands.proofs.Telling.{tells}
use Rattle.run_commands.proofs.recover_command.tell_journal.Goals as goal

pub returns-clause-tells : goal.returns-clause-tells
returns-clause-tells g c =
    let store = g.D.Disk.store c.args.disk in
    let told = c.recover-disk.result.1 in
    let text = c.recover-disk.new.out in
    tells store _ _ text _ _ (code_of c.end_recovery-status.result) told
    (λ is. subst (λ before. Recovers store.reads before text told) c.new-text.ensures (c.recover-disk.ensures.recovers is))
    c.recover-disk.ensures.cause
    c.end_recovery-status.ensures.ends
