use Rattle.std.proofs.Common.{◌∙◌, ℕ, subst, sym}
use Rattle.rtb_io.specs.declared.status.Status.TheVariants as status
use Rattle.run_commands.specs.Beside.{no_journal}
use Rattle.run_commands.specs.Endings.{EndsBy}
use Rattle.run_commands.proofs.Telling.{rises_by_code}
use Rattle.run_commands.proofs.beside_command.compact_beside.Goals as goal

pub returns-in-Ok-clause-compacts : goal.returns-in-Ok-clause-compacts
returns-in-Ok-clause-compacts g c =
    let h = c.in-Ok.ensures in
    c.compact_from.ensures.compacts c.args.world.now (record { asked = h.asks; disks = h.disks; doors = c.disk_to_read.ensures.doors; keys = c.disk_to_read.ensures.keys; faults = h.cause })

pub returns-in-Err-clause-compacts : goal.returns-in-Err-clause-compacts
returns-in-Err-clause-compacts g c =
    let h = c.in-Err.ensures in
    let out = c.without_world.ensures in
    no_journal (record { asked = h.asks; disks = h.disks; doors = c.disk_to_read.ensures.doors; keys = c.disk_to_read.ensures.keys; faults = h.cause.1 }) out.disk out.other out.last
    (subst (λ (code : ℕ). EndsBy status.NoDisk (g.K.Sink.written c.args.sink.now) (g.K.Sink.written c.end_with.new.sink) code) (sym (out.status ∙ c.code.ensures)) c.end_with.ensures.ends)

pub returns-in-Err-clause-cause : goal.returns-in-Err-clause-cause
returns-in-Err-clause-cause g c = rises_by_code c.end_with.result _ _ _ (c.without_world.ensures.status ∙ c.code.ensures) c.end_with.ensures.cause
