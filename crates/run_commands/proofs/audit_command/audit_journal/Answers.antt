use Rattle.std.proofs.Common.{◌∙◌, ℕ, refl, subst, sym}
use Rattle.rtb_io.specs.declared.status.Status.TheVariants as status
use Rattle.run_commands.specs.Audit.{IsAudited, audited, no_disk}
use Rattle.run_commands.specs.Endings.{EndsBy}
use Rattle.run_commands.proofs.Telling.{rises_by_code}
use Rattle.run_commands.proofs.audit_command.audit_journal.Goals as goal

pub returns-in-Ok-clause-audits : goal.returns-in-Ok-clause-audits
returns-in-Ok-clause-audits g c =
    let h = c.in-Ok.ensures in
    let was = c.args.source.now in
    let now = c.audit_disk-disk.new.source in
    audited c.in-Ok.disk c.audit_disk-disk.result.0 (record { asked = h.asks; disks = h.disks; doors = c.disk_to_read.ensures.doors; keys = c.disk_to_read.ensures.keys; faults = h.cause }) c.with_disk.ensures.disk
    (subst (λ (code : ℕ). IsAudited g.W.Disk.Disk c.args.keys.now c.in-Ok.disk c.audit_disk-disk.result.0 (g.S.Source.left was) (g.S.Source.left now) (g.S.Source.faults was) (g.S.Source.faults now) (g.K.Sink.written c.args.sink.now) (g.K.Sink.written c.audit_disk-disk.new.sink) code)
    (sym c.with_disk.ensures.status) c.audit_disk-disk.ensures.audited)

pub returns-in-Ok-clause-cause : goal.returns-in-Ok-clause-cause
returns-in-Ok-clause-cause g c = rises_by_code c.audit_disk-disk.result.1 _ _ _ c.with_disk.ensures.status c.audit_disk-disk.ensures.cause

pub returns-in-Err-clause-audits : goal.returns-in-Err-clause-audits
returns-in-Err-clause-audits g c =
    let h = c.in-Err.ensures in
    let out = c.without_world.ensures in
    no_disk (record { asked = h.asks; disks = h.disks; doors = c.disk_to_read.ensures.doors; keys = c.disk_to_read.ensures.keys; faults = h.cause.1 }) refl refl out.disk
    (subst (λ (code : ℕ). EndsBy status.NoDisk (g.K.Sink.written c.args.sink.now) (g.K.Sink.written c.end_with-status.new.sink) code) (sym (out.status ∙ c.code.ensures)) c.end_with-status.ensures.ends)

pub returns-in-Err-clause-cause : goal.returns-in-Err-clause-cause
returns-in-Err-clause-cause g c = rises_by_code c.end_with-status.result _ _ _ (c.without_world.ensures.status ∙ c.code.ensures) c.end_with-status.ensures.cause
